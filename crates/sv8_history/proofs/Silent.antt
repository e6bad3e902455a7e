-- Runs that differ in nothing that shows.
use Rattle.std.proofs.Common.{◌≡◌, ℕ, zero, suc, ◌*◌, ◌<◌, ◌≤◌, is_some, sym, ◌∙◌, ap, arith, mul-le-mul_left}
use Rattle.sv8_history.specs.Machine.{SameFootprint, Machine, Run, state_at, footprint_at, touches_of}
use Rattle.sv8_history.specs.Trace.{Trace, IsTraceOf, next_checkpoint}
use Rattle.sv8_history.specs.Laws.{LaterKeeps}
use Rattle.sv8_history.proofs.Footprints.{footprint_same, footprint_then, footprint_back, touches_like}
use Rattle.sv8_history.proofs.Spans.{some_from-like, next_of_recorded}
use Rattle.sv8_history.proofs.Kept.{kept_like}

-- The runs are one as far as step `r`, but for what does not show there.
pub record IsSilent (m : Machine) (old new : Run m) (r : ℕ) : Type 0 where
  pub start : new.start ≡ old.start
  pub step : (n : ℕ) → n < r → m.step (new.events n) (state_at m old n) ≡ m.step (old.events n) (state_at m old n)
  pub footprint : (n : ℕ) → n < r → SameFootprint (m.footprint (new.events n) (state_at m old n)) (footprint_at m old n)
  pub poke : (a : m.Cell) (n : ℕ) → n < r → m.poke a (new.events n) ≡ m.poke a (old.events n)

pub silent_state : (m : Machine) (old new : Run m) (r : ℕ) → IsSilent m old new r → (n : ℕ) → n ≤ r → state_at m new n ≡ state_at m old n
silent_state m old new r h zero l = h.start
silent_state m old new r h (suc n) l = ap (m.step (new.events n)) (silent_state m old new r h n (omega arith)) ∙ h.step n (omega arith)

pub silent_footprint : (m : Machine) (old new : Run m) (r : ℕ) → IsSilent m old new r → (n : ℕ) → n < r
    → SameFootprint (footprint_at m new n) (footprint_at m old n)
silent_footprint m old new r h n l = let e = silent_state m old new r h n (omega arith) in rw (footprint_at, e) (h.footprint n l)

pub silent_keeps : (m : Machine) (k : ℕ) → 0 < k → (old new : Run m) (trace : Trace m) → IsTraceOf m k old trace
    → IsSilent m old new (k * trace.count) → IsTraceOf m k new trace
silent_keeps m k pos old new trace right h = record {
  points = λ i l. right.points i l ∙ sym (silent_state m old new (k * trace.count) h (k * i) (mul-le-mul_left k l));
  notes = λ n l. footprint_then (trace.notes n) (footprint_at m old n) (footprint_at m new n) (right.notes n l) (footprint_back (footprint_at m new n) (footprint_at m old n) (silent_footprint m old new (k * trace.count) h n l));
  kept = λ n b.
      right.kept n b ∙ sym
      (kept_like
      m k (k * trace.count) old new n b
      (λ l. ap is_some (h.poke b n l))
      (λ l.
      let w = next_of_recorded k n trace.count pos l in
      some_from-like n (next_checkpoint k n) (touches_of m (footprint_at m new) b) (touches_of m (footprint_at m old) b) (λ j d. touches_like m (footprint_at m new) (footprint_at m old) (k * trace.count) (silent_footprint m old new (k * trace.count) h) b j (omega (arith, w))))
      (λ l d. ap (m.get b) (silent_state m old new (k * trace.count) h n (omega arith))));
}

-- the same events
pub silent_same : (m : Machine) (old new : Run m) (r : ℕ) → new.start ≡ old.start → ((n : ℕ) → n < r → new.events n ≡ old.events n) → IsSilent m old new r
silent_same m old new r start events = record {
  start = start;
  step = λ n l. let e = events n l in rw e;
  footprint = λ n l. let e = events n l in rw e (footprint_same (footprint_at m old n));
  poke = λ a n l. ap (m.poke a) (events n l);
}

pub later_keeps : (m : Machine) → LaterKeeps m
later_keeps m k pos old new trace right start events =
    silent_keeps m k pos old new trace right (silent_same m old new (k * trace.count) start events)
