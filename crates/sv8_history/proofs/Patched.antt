-- A patch keeps the recorded run.
use Rattle.std.proofs.Common.{◌≡◌, ℕ, suc, ◌*◌, ◌<◌, ◌≤◌, ◌==◌, Bool, true, false, not, ◌&&◌, cond, ltb, Option, Some, None, is_some, refl, sym, ◌∙◌, ap, ap₂, subst, arith, inl, inr, ◌⊎◌, le-leb, mul-le-mul_left, eq-eqb, ne_eqb}
use Rattle.std.proofs.lemmas.Bool.{cases_lt, cases_Bool, cases_eq, lt-leb, true_from_ne_false, true≢false}
use Rattle.sv8_history.specs.Machine.{Machine, Run, state_at, footprint_at, writes_of, touches_of}
use Rattle.sv8_history.specs.Framed.{IsFramed}
use Rattle.sv8_history.specs.Trace.{some_from, next_checkpoint, kept_at, Trace, IsTraceOf, Agrees}
use Rattle.sv8_history.specs.Changes.{Cause, Image, Poke, Clear, IsRepoked, IsChanged, is_live}
use Rattle.sv8_history.specs.Patches.{patched_point, kept_at_end, kept_by_poke, spread, keeping, uncover, patch}
use Rattle.sv8_history.specs.Laws.{PatchKeeps}
use Rattle.sv8_history.proofs.Footprints.{footprint_same, footprint_then, footprint_back, change_like}
use Rattle.sv8_history.proofs.Spread.{Shift, Turns, mixed, same_footprints}
use Rattle.sv8_history.proofs.Spans.{none_from, next_of_point}
use Rattle.sv8_history.proofs.Kept.{reach, kept_other, kept_elsewhere}
use Rattle.sv8_history.proofs.Below.{kept_late, kept_touched, kept_unpoked, kept_some, wrote_same, cond_twice, kept_end, span_from-later, kept_set}
use Rattle.sv8_history.proofs.Turning.{shift_of, turns_of}
use Rattle.sv8_history.proofs.Others.{poke_other}
use Rattle.sv8_history.proofs.Cut.{agrees_keeps}

-- the trace with its points patched is that of the new run, where its kept values are
pub patched : (m : Machine) → IsFramed m → (x : Shift m) (old new : Run m) (k : ℕ) (trace : Trace m) → IsTraceOf m k old trace
    → Turns m x old new (k * trace.count) → (kept : ℕ → m.Cell → Option m.Value)
    → ((n : ℕ) (b : m.Cell) → kept n b ≡ kept_at m k new (k * trace.count) n b)
    → IsTraceOf m k new (record trace { point = patched_point m trace x.cell x.value x.from x.first x.last; kept = kept })
patched m law x old new k trace right turns kept keeps = record {
  points = λ i h.
      let l : k * i ≤ k * trace.count = mul-le-mul_left k h in
      let w = wrote_same m k old trace right x.cell x.from (k * i) l in
      let p = right.points i h in
      rw (w, p) (sym (mixed m law x old new (k * trace.count) turns (k * i) l));
  notes = λ n h. footprint_then (trace.notes n) (footprint_at m old n) (footprint_at m new n) (right.notes n h) (footprint_back (footprint_at m new n) (footprint_at m old n) (same_footprints m law x old new (k * trace.count) turns n h));
  kept = keeps;
}

-- a table of kept values with another one at a cell and a step
at_cell : (m : Machine) → IsFramed m → (a b : m.Cell) (n t : ℕ) (p : Option m.Value) (rest want : ℕ → m.Cell → Option m.Value) → p ≡ want t a
    → ((m.same a b ≡ true → n ≡ t → ⊥) → rest n b ≡ want n b) → cond (m.same a b && n == t) p (rest n b) ≡ want n b
at_cell m law a b n t p rest want here other = go (cases_Bool (m.same a b)) (cases_eq n t)
  where
    go : (m.same a b ≡ true) ⊎ (m.same a b ≡ false) → (n ≡ t) ⊎ (n ≡ t → ⊥) → cond (m.same a b && n == t) p (rest n b) ≡ want n b
    go (inl e) (inl f) = rw (e, eq-eqb n t f) (here ∙ ap₂ want (sym f) (law.cells.same_is a b e))
    go (inl e) (inr f) = rw (e, ne_eqb n t f) (other (λ g. f))
    go (inr e) f = rw e (other (λ g h. true≢false (sym g ∙ e)))

-- the kept values where the change is spread, wherever the same events set the cell in both runs
spread_kept : (m : Machine) → IsFramed m → (x : Shift m) (old new : Run m) (k : ℕ) (trace : Trace m) → 0 < k → IsTraceOf m k old trace
    → Turns m x old new (k * trace.count) → (n : ℕ) (b : m.Cell) → is_some (m.poke b (new.events n)) ≡ is_some (m.poke b (old.events n))
    → cond (m.same x.cell b && n == x.last) (kept_at_end m trace x.cell x.value x.from x.last) (trace.kept n b) ≡ kept_at m k new (k * trace.count) n b
spread_kept m law x old new k trace pos right turns n b same =
    at_cell
    m law x.cell b n x.last
    (kept_at_end m trace x.cell x.value x.from x.last)
    trace.kept
    (kept_at m k new (k * trace.count))
    (kept_end m law x old new k trace pos right turns)
    (λ apart. right.kept n b ∙ sym (other apart (cases_Bool (m.same x.cell b))))
  where
    other : (m.same x.cell b ≡ true → n ≡ x.last → ⊥) → (m.same x.cell b ≡ true) ⊎ (m.same x.cell b ≡ false)
        → kept_at m k new (k * trace.count) n b ≡ kept_at m k old (k * trace.count) n b
    other apart (inr e) = kept_other m law x old new k trace.count pos turns b e n same
    other apart (inl e) = there b (law.cells.same_is x.cell b e) same
      where
        there : (c : m.Cell) → x.cell ≡ c → is_some (m.poke c (new.events n)) ≡ is_some (m.poke c (old.events n))
            → kept_at m k new (k * trace.count) n c ≡ kept_at m k old (k * trace.count) n c
        there c f = subst (λ d. is_some (m.poke d (new.events n)) ≡ is_some (m.poke d (old.events n)) → kept_at m k new (k * trace.count) n d ≡ kept_at m k old (k * trace.count) n d) f (kept_elsewhere m law x old new k trace.count pos turns n (apart e))

-- an edit of the source
image_keeps : (m : Machine) → IsFramed m → (x : Shift m) (old new : Run m) (k : ℕ) (trace : Trace m) → 0 < k → IsTraceOf m k old trace
    → Turns m x old new (k * trace.count) → ((n : ℕ) → new.events n ≡ old.events n)
    → IsTraceOf m k new (spread m trace x.cell x.value x.from x.first x.last)
image_keeps m law x old new k trace pos right turns events =
    patched
    m law x old new k trace right turns
    (λ n b. cond (m.same x.cell b && n == x.last) (kept_at_end m trace x.cell x.value x.from x.last) (trace.kept n b))
    (λ n b. spread_kept m law x old new k trace pos right turns n b (ap (λ e. is_some (m.poke b e)) (events n)))

-- an event that is set or cleared, where below it is kept what stands there
event_keeps : (m : Machine) → IsFramed m → (x : Shift m) (old new : Run m) (k : ℕ) (trace : Trace m) → 0 < k → IsTraceOf m k old trace
    → Turns m x old new (k * trace.count) → (p : Option m.Value) → IsRepoked m x.cell x.from p old new → (q : Option m.Value)
    → q ≡ kept_at m k new (k * trace.count) x.from x.cell
    → IsTraceOf m k new (keeping m (spread m trace x.cell x.value x.from x.first x.last) x.cell x.from q)
event_keeps m law x old new k trace pos right turns p edit q below =
    patched
    m law x old new k trace right turns
    (λ n b. cond (m.same x.cell b && n == x.from) q (cond (m.same x.cell b && n == x.last) (kept_at_end m trace x.cell x.value x.from x.last) (trace.kept n b)))
    (λ n b. at_cell
    m law x.cell b n x.from q
    (λ j c. cond (m.same x.cell c && j == x.last) (kept_at_end m trace x.cell x.value x.from x.last) (trace.kept j c))
    (kept_at m k new (k * trace.count))
    below
    (λ apart. spread_kept m law x old new k trace pos right turns n b (same n b apart (cases_Bool (m.same x.cell b)))))
  where
    same : (n : ℕ) (b : m.Cell) → (m.same x.cell b ≡ true → n ≡ x.from → ⊥) → (m.same x.cell b ≡ true) ⊎ (m.same x.cell b ≡ false)
        → is_some (m.poke b (new.events n)) ≡ is_some (m.poke b (old.events n))
    same n b apart (inl e) = ap (λ f. is_some (m.poke b f)) (edit.elsewhere n (apart e))
    same n b apart (inr e) = ap is_some (poke_other m law x.cell b x.from p old new edit e n)

-- the value below a poke that is kept
kept_value : (m : Machine) (k r : ℕ) (run : Run m) (n : ℕ) (a : m.Cell) (v : m.Value) → kept_at m k run r n a ≡ Some v → v ≡ m.get a (state_at m run n)
kept_value m k r run n a v e = go (ltb n r && is_some (m.poke a (run.events n)) && not (some_from n (next_checkpoint k n) (touches_of m (footprint_at m run) a))) e
  where
    go : (b : Bool) → cond b (Some (m.get a (state_at m run n))) None ≡ Some v → v ≡ m.get a (state_at m run n)
    go true h = cc
    go false h = cc

-- An event below which no value is kept: no checkpoint shows what stood there, so it makes no difference that a value is spread.
idle_agrees : (m : Machine) → IsFramed m → (x : Shift m) (old new : Run m) (k : ℕ) (trace : Trace m) → 0 < k → IsTraceOf m k old trace
    → Turns m x old new (k * trace.count) → x.first ≡ suc x.from → is_some (m.poke x.cell (old.events x.from)) ≡ true
    → trace.kept x.from x.cell ≡ None → Agrees m k (keeping m (spread m trace x.cell x.value x.from x.first x.last) x.cell x.from None) trace
idle_agrees m law x old new k trace pos right turns next poked idle = record {
  count = refl;
  points = λ i l.
      let dead = not_live i (mul-le-mul_left k l) (cases_lt (k * i) x.first) (cases_lt x.last (k * i)) in
      let w = wrote_same m k old trace right x.cell x.from (k * i) (mul-le-mul_left k l) in
      rw (w, dead);
  notes = λ n l. footprint_same (trace.notes n);
  kept = λ n b. sym
      (at_cell
      m law x.cell b n x.from None
      (λ j c. cond (m.same x.cell c && j == x.last) (kept_at_end m trace x.cell x.value x.from x.last) (trace.kept j c))
      trace.kept
      (sym idle)
      (λ g. at_cell
      m law x.cell b n x.last
      (kept_at_end m trace x.cell x.value x.from x.last)
      trace.kept trace.kept
      (sym (end (cases_lt x.last (k * trace.count)) (cases_Bool (some_from x.from x.last (writes_of m (footprint_at m old) x.cell))) (cases_lt x.last (next_checkpoint k x.from))))
      (λ h. refl)));
}
  where
    touched : x.from < k * trace.count → some_from x.from (next_checkpoint k x.from) (touches_of m (footprint_at m old) x.cell) ≡ true
    touched h =
        true_from_ne_false
        (some_from x.from (next_checkpoint k x.from) (touches_of m (footprint_at m old) x.cell))
        (λ e. let p = kept_some m k (k * trace.count) old x.from x.cell h poked e in let q = right.kept x.from x.cell in cc)

    wrote : (c : ℕ) → x.from < c → next_checkpoint k x.from ≤ c → c ≤ x.last → c ≤ k * trace.count
        → some_from x.from c (writes_of m (footprint_at m old) x.cell) ≡ true
    wrote c from-c next-c c-last c-r =
        true_from_ne_false
        (some_from x.from c (writes_of m (footprint_at m old) x.cell))
        (λ e.
        let q = none_from x.from (next_checkpoint k x.from) (touches_of m (footprint_at m old) x.cell) (λ n b d. reach m x old new (k * trace.count) turns c c-last c-r e n b (omega arith)) in
        true≢false (sym (touched (omega arith)) ∙ q))

    not_live : (i : ℕ) → k * i ≤ k * trace.count → (k * i < x.first) ⊎ (x.first ≤ k * i) → (x.last < k * i) ⊎ (k * i ≤ x.last)
        → is_live (writes_of m (footprint_at m old) x.cell) x.from x.first x.last (k * i) ≡ false
    not_live i l (inl h) b = rw (lt-leb x.first (k * i) h)
    not_live i l (inr h) (inl b) = rw (le-leb x.first (k * i) h, lt-leb (k * i) x.last b)
    not_live i l (inr h) (inr b) =
        let above : x.from < k * i = omega (arith, next) in
        let w = wrote (k * i) above (next_of_point k x.from i pos above) b l in
        rw (le-leb x.first (k * i) h, le-leb (k * i) x.last b, w)

    end : (x.last < k * trace.count) ⊎ (k * trace.count ≤ x.last)
        → (some_from x.from x.last (writes_of m (footprint_at m old) x.cell) ≡ true) ⊎ (some_from x.from x.last (writes_of m (footprint_at m old) x.cell) ≡ false)
        → (x.last < next_checkpoint k x.from) ⊎ (next_checkpoint k x.from ≤ x.last)
        → trace.kept x.last x.cell ≡ kept_at_end m trace x.cell x.value x.from x.last
    end (inr h) b c =
        let e : trace.kept x.last x.cell ≡ None = right.kept x.last x.cell ∙ kept_late m k (k * trace.count) old x.last x.cell h in
        rw e (cond_twice (some_from x.from x.last (writes_of m trace.notes x.cell)) None)
    end (inl h) (inl b) c = let w = wrote_same m k old trace right x.cell x.from x.last (omega arith) ∙ b in rw w
    end (inl h) (inr b) (inl c) =
        let w = wrote_same m k old trace right x.cell x.from x.last (omega arith) ∙ b in
        let below = reach m x old new (k * trace.count) turns x.last (omega arith) (omega arith) b in
        let q = turns.first-last in
        let from-last : x.from ≤ x.last = omega (arith, q, next) in
        let recorded : x.from < k * trace.count = omega (arith, from-last, h) in
        let e : trace.kept x.last x.cell ≡ None = right.kept x.last x.cell ∙ kept_touched m k (k * trace.count) old x.last x.cell (true_from_ne_false (some_from x.last (next_checkpoint k x.last) (touches_of m (footprint_at m old) x.cell)) (λ f. true≢false (sym (touched recorded) ∙ span_from-later k x.from x.last pos from-last c (touches_of m (footprint_at m old) x.cell) below f))) in
        rw (w, e)
    end (inl h) (inr b) (inr c) =
        let q = turns.first-last in
        let above : x.from < x.last = omega (arith, q, next) in
        absurd (true≢false (sym (wrote x.last above c (omega arith) (omega arith)) ∙ b))

clear_keeps : (m : Machine) → IsFramed m → (old new : Run m) (k : ℕ) (trace : Trace m) → 0 < k → IsTraceOf m k old trace → (a : m.Cell) (t u : ℕ)
    → Turns m (record { cell = a; value = m.get a (state_at m old t); from = t; first = suc t; last = u }) old new (k * trace.count)
    → is_some (m.poke a (old.events t)) ≡ true → IsRepoked m a t None old new → IsTraceOf m k new (uncover m trace a t u (trace.kept t a))
clear_keeps m law old new k trace pos right a t u turns poked edit = go (trace.kept t a) refl
  where
    x : Shift m
    x = record { cell = a; value = m.get a (state_at m old t); from = t; first = suc t; last = u }

    below : None ≡ kept_at m k new (k * trace.count) t a
    below = sym (kept_unpoked m k (k * trace.count) new t a (ap is_some edit.poke))

    whole : IsTraceOf m k new (keeping m (spread m trace a (m.get a (state_at m old t)) t (suc t) u) a t None)
    whole = event_keeps m law x old new k trace pos right turns None edit None below

    go : (p : Option m.Value) → trace.kept t a ≡ p → IsTraceOf m k new (uncover m trace a t u p)
    go None e =
        agrees_keeps m k new (keeping m (spread m trace a (m.get a (state_at m old t)) t (suc t) u) a t None) trace
        (idle_agrees m law x old new k trace pos right turns refl poked e)
        whole
    go (Some v) e =
        let f : v ≡ m.get a (state_at m old t) = kept_value m k (k * trace.count) old t a v (sym (right.kept t a) ∙ e) in
        rw f whole

pub patch_keeps : (m : Machine) → PatchKeeps m
patch_keeps m law k pos old new trace c right plan change unread = parts c.cell c.from c.to c.cause change turns
  where
    turns : Turns m (shift_of m old c) old new (k * trace.count)
    turns = turns_of m law old new (k * trace.count) c plan change (λ n l. sym (change_like m trace.notes (footprint_at m old) (k * trace.count) right.notes c n l) ∙ unread n l)

    parts : (a : m.Cell) (t u : ℕ) (d : Cause m.Value) → IsChanged m (record { cell = a; from = t; to = u; cause = d }) old new
        → Turns m (shift_of m old (record { cell = a; from = t; to = u; cause = d })) old new (k * trace.count)
        → IsTraceOf m k new (patch m k trace (record { cell = a; from = t; to = u; cause = d }))
    parts a t u (Image v) change turns =
        image_keeps m law (record { cell = a; value = v; from = t; first = t; last = u }) old new k trace pos right turns (change.1).events
    parts a t u (Poke v) change turns =
        event_keeps m law (record { cell = a; value = v; from = t; first = suc t; last = u }) old new k trace pos right turns (Some v) change (kept_by_poke m k trace a t u)
        (kept_set m law (record { cell = a; value = v; from = t; first = suc t; last = u }) old new k trace pos right turns refl (ap is_some change.poke))
    parts a t u Clear change turns = clear_keeps m law old new k trace pos right a t u turns change.0 change.1
