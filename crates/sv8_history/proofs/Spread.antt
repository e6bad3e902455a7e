-- How far a change of one cell spreads: the states and footprints of the run with it, beside those of the run without.
use Rattle.std.proofs.Common.{◌≡◌, ℕ, zero, suc, ◌<◌, ◌≤◌, Bool, true, false, not, ◌&&◌, ◌||◌, cond, leb, Option, Some, None, is_some, refl, ◌∙◌, ap, subst, arith, inl, inr, ◌⊎◌, le-leb}
use Rattle.std.proofs.lemmas.Bool.{cases_lt, cases_order, lt-leb, true≢false}
use Rattle.sv8_history.specs.Machine.{SameFootprint, Machine, Run, state_at, footprint_at, reads_of, writes_of}
use Rattle.sv8_history.specs.Framed.{IsFramed}
use Rattle.sv8_history.specs.Changes.{is_live}
use Rattle.sv8_history.specs.Trace.{some_from}
use Rattle.sv8_history.proofs.Footprints.{footprint_same}

-- A change of the cell to the value, of a cause at step `from`, that the states from `first` to `last` can show.
pub record Shift (m : Machine) : Type 0 where
  pub cell : m.Cell
  pub value : m.Value
  pub from : ℕ
  pub first : ℕ
  pub last : ℕ

-- It turns the one run into the other, as far as step `r`.
pub record Turns (m : Machine) (x : Shift m) (old new : Run m) (r : ℕ) : Type 0 where
  pub has : m.Has x.cell old.start
  pub fits : m.Fits x.cell x.value
  pub from-first : x.from ≤ x.first
  pub first-last : x.first ≤ x.last
  -- before `first` the runs are one, with one footprint
  pub before : (n : ℕ) → n < x.first → state_at m new n ≡ state_at m old n
  pub footprint_before : (n : ℕ) → n < x.first → n < r → SameFootprint (footprint_at m new n) (footprint_at m old n)
  pub base : x.first ≤ r
      → state_at m new x.first ≡ cond (some_from x.from x.first (writes_of m (footprint_at m old) x.cell)) (state_at m old x.first) (m.put x.cell x.value (state_at m old x.first))
  pub same_events : (n : ℕ) → x.first ≤ n → new.events n ≡ old.events n
  pub unpoked : (n : ℕ) → x.first ≤ n → n < x.last → m.poke x.cell (old.events n) ≡ None
  pub poked : x.last < r → is_some (m.poke x.cell (old.events x.last)) ≡ true
  pub unread : (n : ℕ) → x.from ≤ n → n < x.last → n < r → some_from x.from n (writes_of m (footprint_at m old) x.cell) ≡ false
      → reads_of m (footprint_at m old) x.cell n ≡ false

-- the state of the changed run, as long as the change lasts
abbrev pub Mix : (m : Machine) → Shift m → Run m → Run m → ℕ → Type 0
Mix m x old new n = state_at m new n ≡ cond (some_from x.from n (writes_of m (footprint_at m old) x.cell)) (state_at m old n) (m.put x.cell x.value (state_at m old n))

pub has_at : (m : Machine) → IsFramed m → (a : m.Cell) (run : Run m) → m.Has a run.start → (n : ℕ) → m.Has a (state_at m run n)
has_at m law a run h zero = h
has_at m law a run h (suc n) = law.cells.has_step a (run.events n) (state_at m run n) (run.valid n) (has_at m law a run h n)

-- one quiet step
pub quiet_step : (m : Machine) → IsFramed m → (a : m.Cell) (v : m.Value) (e : m.Event) (s : m.State) → m.Valid e → m.Has a s → m.Fits a v → m.poke a e ≡ None
    → (m.footprint e s).reads a ≡ false → m.step e (m.put a v s) ≡ cond ((m.footprint e s).writes a) (m.step e s) (m.put a v (m.step e s))
quiet_step m law a v e s valid has fits no_poke no_read =
    let q = law.quiet a v e e s valid valid has fits (law.events.alike_self a e) no_read in
    rw no_poke at q

-- one step of the mixture, from a state that the change was written over in, or not
mix_step : (m : Machine) → IsFramed m → (a : m.Cell) (v : m.Value) (e f : m.Event) (s r : m.State) (wrote within : Bool) → m.Valid e → m.Has a s → m.Fits a v
    → f ≡ e → within ≡ true → r ≡ cond wrote s (m.put a v s) → m.poke a e ≡ None → (wrote ≡ false → (m.footprint e s).reads a ≡ false)
    → m.step f r ≡ cond (wrote || within && (m.footprint e s).writes a) (m.step e s) (m.put a v (m.step e s))
mix_step m law a v e f s r true within valid has fits same w is no_poke no_read = rw same (ap (m.step e) is)
mix_step m law a v e f s r false within valid has fits same w is no_poke no_read =
    rw (same, w) (ap (m.step e) is ∙ quiet_step m law a v e s valid has fits no_poke (no_read refl))

during : (m : Machine) → IsFramed m → (x : Shift m) (old new : Run m) (r : ℕ) → Turns m x old new r → (n : ℕ) → x.first ≤ n → n ≤ x.last → n ≤ r
    → Mix m x old new n
during m law x old new r turns zero lo-n n-u n-r =
    let e : x.first ≡ 0 = omega arith in subst (λ k. Mix m x old new k) e (turns.base (omega arith))
during m law x old new r turns (suc n) lo-n n-u n-r = go (during m law x old new r turns n) (cases_lt n x.first)
  where
    go : (x.first ≤ n → n ≤ x.last → n ≤ r → Mix m x old new n) → (n < x.first) ⊎ (x.first ≤ n) → Mix m x old new (suc n)
    go rest (inl h) = let e : x.first ≡ suc n = omega arith in subst (λ k. Mix m x old new k) e (turns.base (omega arith))
    go rest (inr h) =
        mix_step
        m law x.cell x.value (old.events n) (new.events n) (state_at m old n) (state_at m new n) (some_from x.from n (writes_of m (footprint_at m old) x.cell)) (leb x.from n) (old.valid n) (has_at m law x.cell old turns.has n) turns.fits
        (turns.same_events n h)
        (le-leb x.from n (let a = turns.from-first in omega arith))
        (rest h (omega arith) (omega arith))
        (turns.unpoked n h (omega arith))
        (turns.unread n (let a = turns.from-first in omega arith) (omega arith) (omega arith))

-- at the next poke of the cell the states become one again
alike_step : (m : Machine) → IsFramed m → (a : m.Cell) (v : m.Value) (e f : m.Event) (s r : m.State) (wrote : Bool) → m.Valid e → m.Has a s → m.Fits a v → f ≡ e
    → r ≡ cond wrote s (m.put a v s) → is_some (m.poke a e) ≡ true → m.step f r ≡ m.step e s
alike_step m law a v e f s r true valid has fits same is poked = rw same (ap (m.step e) is)
alike_step m law a v e f s r false valid has fits same is poked = go (m.poke a e) refl poked
  where
    go : (p : Option m.Value) → m.poke a e ≡ p → is_some p ≡ true → m.step f r ≡ m.step e s
    go None q h = cc
    go (Some w) q h = rw same (ap (m.step e) is ∙ law.alike a w v e s valid has fits q)

after : (m : Machine) → IsFramed m → (x : Shift m) (old new : Run m) (r : ℕ) → Turns m x old new r → (n : ℕ) → x.last < n → n ≤ r
    → state_at m new n ≡ state_at m old n
after m law x old new r turns zero u-n n-r = absurd (omega arith)
after m law x old new r turns (suc n) u-n n-r = go (after m law x old new r turns n) (cases_lt x.last n)
  where
    go : (x.last < n → n ≤ r → state_at m new n ≡ state_at m old n) → (x.last < n) ⊎ (n ≤ x.last) → state_at m new (suc n) ≡ state_at m old (suc n)
    go rest (inl h) =
        let q = turns.same_events n (let a = turns.first-last in omega arith) in
        let i = rest h (omega arith) in
        cc
    go rest (inr h) =
        let e : n ≡ x.last = omega arith in
        let l : x.first ≤ n = (let a = turns.first-last in omega arith) in
        let p : is_some (m.poke x.cell (old.events n)) ≡ true = rw e (turns.poked (omega arith)) in
        alike_step
        m law x.cell x.value (old.events n) (new.events n) (state_at m old n) (state_at m new n) (some_from x.from n (writes_of m (footprint_at m old) x.cell)) (old.valid n) (has_at m law x.cell old turns.has n) turns.fits
        (turns.same_events n l)
        (during m law x old new r turns n l h (omega arith))
        p

-- the state of the changed run, anywhere
pub mixed : (m : Machine) → IsFramed m → (x : Shift m) (old new : Run m) (r : ℕ) → Turns m x old new r → (n : ℕ) → n ≤ r
    → state_at m new n ≡ cond (is_live (writes_of m (footprint_at m old) x.cell) x.from x.first x.last n) (m.put x.cell x.value (state_at m old n)) (state_at m old n)
mixed m law x old new r turns n n-r = go (cases_lt n x.first) (cases_lt x.last n)
  where
    go : (n < x.first) ⊎ (x.first ≤ n) → (x.last < n) ⊎ (n ≤ x.last)
        → state_at m new n ≡ cond (is_live (writes_of m (footprint_at m old) x.cell) x.from x.first x.last n) (m.put x.cell x.value (state_at m old n)) (state_at m old n)
    go (inl h) b = rw (lt-leb x.first n h) (turns.before n h)
    go (inr h) (inl k) = rw (le-leb x.first n h, lt-leb n x.last k) (after m law x old new r turns n k n-r)
    go (inr h) (inr k) = rw (le-leb x.first n h, le-leb n x.last k) (turned (some_from x.from n (writes_of m (footprint_at m old) x.cell)) (during m law x old new r turns n h k n-r))
      where
        turned : (b : Bool) → state_at m new n ≡ cond b (state_at m old n) (m.put x.cell x.value (state_at m old n))
            → state_at m new n ≡ cond (not b) (m.put x.cell x.value (state_at m old n)) (state_at m old n)
        turned true e = e
        turned false e = e

footprint_step : (m : Machine) (a : m.Cell) (v : m.Value) (e f : m.Event) (s r : m.State) (wrote : Bool) → f ≡ e → r ≡ cond wrote s (m.put a v s)
    → (wrote ≡ false → SameFootprint (m.footprint e (m.put a v s)) (m.footprint e s)) → SameFootprint (m.footprint f r) (m.footprint e s)
footprint_step m a v e f s r true same is h = rw (same, is) (footprint_same (m.footprint e s))
footprint_step m a v e f s r false same is h = rw (same, is) (h refl)

quiet_footprint_step : (m : Machine) → IsFramed m → (a : m.Cell) (v : m.Value) (e : m.Event) (s : m.State) → m.Valid e → m.Has a s → m.Fits a v
    → (m.footprint e s).reads a ≡ false → SameFootprint (m.footprint e (m.put a v s)) (m.footprint e s)
quiet_footprint_step m law a v e s valid has fits no_read =
    law.quiet_footprint a v e e s valid valid has fits (law.events.alike_self a e) no_read

alike_footprint_step : (m : Machine) → IsFramed m → (a : m.Cell) (v : m.Value) (e : m.Event) (s : m.State) → m.Valid e → m.Has a s → m.Fits a v
    → is_some (m.poke a e) ≡ true → SameFootprint (m.footprint e (m.put a v s)) (m.footprint e s)
alike_footprint_step m law a v e s valid has fits poked = go (m.poke a e) refl poked
  where
    go : (p : Option m.Value) → m.poke a e ≡ p → is_some p ≡ true → SameFootprint (m.footprint e (m.put a v s)) (m.footprint e s)
    go None q h = cc
    go (Some w) q h = law.alike_footprint a w v e s valid has fits q

-- the footprints of the two runs are one
pub same_footprints : (m : Machine) → IsFramed m → (x : Shift m) (old new : Run m) (r : ℕ) → Turns m x old new r → (n : ℕ) → n < r
    → SameFootprint (footprint_at m new n) (footprint_at m old n)
same_footprints m law x old new r turns n n-r = go (cases_lt n x.first) (cases_order n x.last)
  where
    go : (n < x.first) ⊎ (x.first ≤ n) → (n ≡ x.last) ⊎ ((n < x.last) ⊎ (x.last < n)) → SameFootprint (footprint_at m new n) (footprint_at m old n)
    go (inl h) b = turns.footprint_before n h n-r
    go (inr h) (inl k) =
        footprint_step
        m x.cell x.value (old.events n) (new.events n) (state_at m old n) (state_at m new n) (some_from x.from n (writes_of m (footprint_at m old) x.cell))
        (turns.same_events n h)
        (during m law x old new r turns n h (omega arith) (omega arith))
        (λ w. alike_footprint_step m law x.cell x.value (old.events n) (state_at m old n) (old.valid n) (has_at m law x.cell old turns.has n) turns.fits (rw k (turns.poked (omega arith))))
    go (inr h) (inr (inl k)) =
        footprint_step
        m x.cell x.value (old.events n) (new.events n) (state_at m old n) (state_at m new n) (some_from x.from n (writes_of m (footprint_at m old) x.cell))
        (turns.same_events n h)
        (during m law x old new r turns n h (omega arith) (omega arith))
        (λ w. quiet_footprint_step m law x.cell x.value (old.events n) (state_at m old n) (old.valid n) (has_at m law x.cell old turns.has n) turns.fits (turns.unread n (let a = turns.from-first in omega arith) k n-r w))
    go (inr h) (inr (inr k)) =
        footprint_step
        m x.cell x.value (old.events n) (new.events n) (state_at m old n) (state_at m new n) true
        (turns.same_events n h)
        (after m law x old new r turns n k (omega arith))
        (λ w. absurd (true≢false w))
