-- One interval more.
use Rattle.std.proofs.Common.{◌≡◌, ℕ, zero, suc, ◌+◌, ◌-◌, ◌*◌, ◌/◌, ◌%◌, ◌<◌, ◌≤◌, List, [], ◌∷◌, ◌++◌, length, get_or, Bool, false, ◌&&◌, ◌||◌, cond, leb, refl, sym, ◌∙◌, ap, ap₂, arith, inl, inr, ◌⊎◌, lt-ltb, le-ltb, le-leb, length-append, mul_comm, mul-le-mul_left, div-lt_iff_lt-mul, le-div_iff_mul-le}
use Rattle.std.proofs.Math.Nat.{mul-div_cancel_left}
use Rattle.std.proofs.lemmas.Nat.{div-mul-add, mod-mul-add}
use Rattle.std.proofs.lemmas.Bool.{cases_lt, lt-leb}
use Rattle.std.proofs.lemmas.List.{get_or_append_left, get_or_past}
use Rattle.std.proofs.Math.Seq.{get_or-append_seam}
use Rattle.sv8_model.specs.Cells.{Cell}
use Rattle.sv8_history.specs.Machine.{Footprint, SameFootprint, Run, touches_of}
use Rattle.sv8_history.specs.Trace as history
use Rattle.sv8_history.specs.Trace.{some_from, next_checkpoint}
use Rattle.sv8_history.specs.Growing.{extended, steps_from, state_after, notes_after, kept_after}
use Rattle.sv8_history.proofs.Common.{footprint_same, some_from-like}
use Rattle.sv8_time.specs.Schedule.{Schedule}
use Rattle.sv8_cpu.specs.State.{State}
use Rattle.sv8_cpu.specs.Run.{step, footprint}
use Rattle.sv8_memory.specs.Events.{with_events}
use Rattle.sv8_cpu.specs.Recorded.{machine, event_at, footprint_of, AreEvents}
use Rattle.sv8_trace.specs.declared.interval.Interval.{Interval}
use Rattle.sv8_trace.specs.Recorder.{steps_on, footprint_on, touches_on, IsRecorded}
use Rattle.sv8_trace.specs.Recording.{Recording, blank, no_interval, trace_of, last_point, IsExtended}

abbrev run_from : (windows pages : ℕ) (schedule : Schedule) → State → AreEvents pages schedule → Run (machine windows pages)
run_from windows pages schedule start valid = record { start = start; events = event_at schedule; valid = valid }

steps_same : (windows pages : ℕ) (schedule : Schedule) (start : State) (valid : AreEvents pages schedule) (n : ℕ) (s : State) (j : ℕ)
    → steps_from (machine windows pages) (run_from windows pages schedule start valid) n s j ≡ steps_on windows pages schedule n s j
unfolding step with_events
steps_same windows pages schedule start valid n s zero = refl
steps_same windows pages schedule start valid n s (suc j) = ap (step windows pages schedule (n + j)) (steps_same windows pages schedule start valid n s j)

footprint_same_on : (windows pages : ℕ) (schedule : Schedule) (n : ℕ) (s : State) → (machine windows pages).footprint (event_at schedule n) s ≡ footprint_of (footprint windows pages schedule n s)
unfolding footprint with_events
footprint_same_on windows pages schedule n s = refl

-- a span is the same when its steps are counted from another one
shifted : (b j c : ℕ) (f : ℕ → Bool) → some_from (b + j) (b + c) f ≡ some_from j c (λ x. f (b + x))
shifted b j zero f = go (cases_lt (b + 0) (b + j))
  where
    none : (t c : ℕ) (f : ℕ → Bool) → c ≤ t → some_from t c f ≡ false
    none t zero f h = refl
    none t (suc c) f h = rw (none t c f (omega arith), lt-leb t c (omega arith))

    go : (b + 0 < b + j) ⊎ (b + j ≤ b + 0) → some_from (b + j) (b + 0) f ≡ false
    go (inl l) = none (b + j) (b + 0) f (omega arith)
    go (inr l) = none (b + j) (b + 0) f (omega arith)
shifted b j (suc c) f =
    let e : b + suc c ≡ suc (b + c) = omega arith in
    ap (λ x. some_from (b + j) x f) e
    ∙ ap₂ (λ x y. x || (y && f (b + c))) (shifted b j c f) (le_same (cases_lt c j))
  where
    le_same : (c < j) ⊎ (j ≤ c) → leb (b + j) (b + c) ≡ leb j c
    le_same (inl l) = rw (lt-leb j c l, lt-leb (b + j) (b + c) (omega arith))
    le_same (inr l) = rw (le-leb j c l, le-leb (b + j) (b + c) (omega arith))

module _ (windows pages k : ℕ) (pos : 0 < k) (schedule : Schedule) (old new : Recording) (s : State) (steps : Interval)
    (points : length old.points ≡ length old.intervals + 1)
    (point_is : new.points ≡ old.points ++ s ∷ []) (interval_is : new.intervals ≡ old.intervals ++ steps ∷ [])
    (reached : s ≡ steps_on windows pages schedule (k * length old.intervals) (last_point old) k)
    (recorded : IsRecorded windows pages schedule (k * length old.intervals) (last_point old) k steps) where
  count : ℕ
  count = length old.intervals

  -- ---- where a step stands

  of_old : (n : ℕ) → n < k * length old.intervals → n / k < length old.intervals
  of_old n h = (div-lt_iff_lt-mul pos).1 (rw (mul_comm (length old.intervals) k) h)

  old_interval : (n : ℕ) → n < k * length old.intervals → get_or new.intervals (n / k) no_interval ≡ get_or old.intervals (n / k) no_interval
  old_interval n h = ap (λ xs. get_or xs (n / k) no_interval) interval_is ∙ get_or_append_left old.intervals (steps ∷ []) no_interval (n / k) (of_old n h)

  -- step j of the new interval
  place : (n : ℕ) → k * length old.intervals ≤ n → k * length old.intervals + (n - k * length old.intervals) ≡ n
  place n h = omega arith

  new_div : (n : ℕ) → k * length old.intervals ≤ n → n < k * suc (length old.intervals) → n / k ≡ length old.intervals
  new_div n h l =
      let small : n - k * length old.intervals < k = omega (arith, h, l) in
      ap (λ x. x / k) (sym (place n h)) ∙ ap (λ x. (x + (n - k * length old.intervals)) / k) (mul_comm k (length old.intervals)) ∙ div-mul-add (length old.intervals) k (n - k * length old.intervals) small

  new_mod : (n : ℕ) → k * length old.intervals ≤ n → n < k * suc (length old.intervals) → n % k ≡ n - k * length old.intervals
  new_mod n h l =
      let small : n - k * length old.intervals < k = omega (arith, h, l) in
      ap (λ x. x % k) (sym (place n h)) ∙ ap (λ x. (x + (n - k * length old.intervals)) % k) (mul_comm k (length old.intervals)) ∙ mod-mul-add (length old.intervals) k (n - k * length old.intervals) small

  new_interval : (n : ℕ) → k * length old.intervals ≤ n → n < k * suc (length old.intervals) → get_or new.intervals (n / k) no_interval ≡ steps
  new_interval n h l = ap₂ (λ xs i. get_or xs i no_interval) interval_is (new_div n h l) ∙ get_or-append_seam old.intervals steps [] no_interval

  last_is : (trace_of windows pages k old).point (k * length old.intervals) ≡ last_point old
  last_is = ap (λ i. get_or old.points i blank) (mul-div_cancel_left (length old.intervals) pos)

  module _ (start : State) (valid : AreEvents pages schedule) where
    abbrev run : Run (machine windows pages)
    run = record { start = start; events = event_at schedule; valid = valid }

    abbrev before : history.Trace (machine windows pages)
    before = trace_of windows pages k old

    abbrev after : history.Trace (machine windows pages)
    after = trace_of windows pages k new

    state_on : (n : ℕ) → state_after (machine windows pages) k run before n ≡ steps_on windows pages schedule (k * length old.intervals) (last_point old) (n - k * length old.intervals)
    state_on n =
        ap (λ x. steps_from (machine windows pages) run (k * length old.intervals) x (n - k * length old.intervals)) last_is
        ∙ steps_same windows pages schedule start valid (k * length old.intervals) (last_point old) (n - k * length old.intervals)

    note_on : (n : ℕ) → k * length old.intervals ≤ n → (machine windows pages).footprint (event_at schedule n) (state_after (machine windows pages) k run before n)
        ≡ footprint_on windows pages schedule (k * length old.intervals) (last_point old) (n - k * length old.intervals)
    note_on n h =
        ap ((machine windows pages).footprint (event_at schedule n)) (state_on n) ∙ footprint_same_on windows pages schedule n _
        ∙ ap (λ x. footprint_of (footprint windows pages schedule x (steps_on windows pages schedule (k * length old.intervals) (last_point old) (n - k * length old.intervals)))) (sym (place n h))

    new_points : (i : ℕ) → i ≤ suc (length old.intervals) → after.point (k * i) ≡ (extended (machine windows pages) k run before).point (k * i)
    new_points i h = go (cases_lt (length old.intervals) i)
      where
        div : k * i / k ≡ i
        div = mul-div_cancel_left i pos

        go : (length old.intervals < i) ⊎ (i ≤ length old.intervals) → after.point (k * i) ≡ (extended (machine windows pages) k run before).point (k * i)
        go (inr l) =
            let m : k * i ≤ k * length old.intervals = mul_le l in
            let w : i < length old.points = omega (arith, points, l) in
            rw (le-ltb (k * length old.intervals) (k * i) m, div) (ap (λ xs. get_or xs i blank) point_is ∙ get_or_append_left old.points (s ∷ []) blank i w)
          where
            mul_le : i ≤ length old.intervals → k * i ≤ k * length old.intervals
            mul_le l = mono l
              where
                mono : {a b : ℕ} → a ≤ b → k * a ≤ k * b
                mono l = mul-le-mul_left k l
        go (inl l) =
            let e : i ≡ suc (length old.intervals) = omega arith in
            let m : k * length old.intervals < k * i = rw e (omega (arith, pos)) in
            let j : k * i - k * length old.intervals ≡ k = rw e (omega arith) in
            let at : i ≡ length old.points = omega (arith, points, e) in
            rw (lt-ltb (k * length old.intervals) (k * i) m, div)
            (ap₂ (λ xs x. get_or xs x blank) point_is at ∙ get_or-append_seam old.points s [] blank ∙ reached
            ∙ sym (state_on (k * i) ∙ ap (steps_on windows pages schedule (k * length old.intervals) (last_point old)) j))

    new_notes : (n : ℕ) → n < k * suc (length old.intervals) → SameFootprint (after.notes n) (notes_after (machine windows pages) k run before n)
    new_notes n h = go (cases_lt n (k * length old.intervals))
      where
        go : (n < k * length old.intervals) ⊎ (k * length old.intervals ≤ n) → SameFootprint (after.notes n) (notes_after (machine windows pages) k run before n)
        go (inl l) = let e = old_interval n l in rw (lt-ltb n (k * length old.intervals) l, e) (footprint_same (before.notes n))
        go (inr l) =
            let e = new_interval n l h in
            let m = new_mod n l h in
            let f = note_on n l in
            rw (le-ltb n (k * length old.intervals) l, e, m, f) (recorded.footprints (n - k * length old.intervals) (omega (arith, h, l)))

    new_kept : (n : ℕ) (c : Cell) → after.kept n c ≡ kept_after (machine windows pages) k run before n c
    new_kept n c = go (cases_lt n (k * length old.intervals)) (cases_lt n (k * suc (length old.intervals)))
      where
        go : (n < k * length old.intervals) ⊎ (k * length old.intervals ≤ n) → (n < k * suc (length old.intervals)) ⊎ (k * suc (length old.intervals) ≤ n) → after.kept n c ≡ kept_after (machine windows pages) k run before n c
        go (inl l) h = let e = old_interval n l in rw (lt-ltb n (k * length old.intervals) l, e)
        go (inr l) (inl h) =
            let e = new_interval n l h in
            let m = new_mod n l h in
            let d = new_div n l h in
            let state = state_on n in
            let small : n - k * length old.intervals < k = omega (arith, h, l) in
            let r = recorded.kept (n - k * length old.intervals) c in
            let span : some_from n (next_checkpoint k n) (touches_of (machine windows pages) (notes_after (machine windows pages) k run before) c) ≡ some_from (n - k * length old.intervals) k (touches_on windows pages schedule (k * length old.intervals) (last_point old) c) = spans l h d in
            rw (le-ltb n (k * length old.intervals) l, e, m, r, state, span, lt-ltb n (k * suc (length old.intervals)) h, lt-ltb (n - k * length old.intervals) k small, place n l)
          where
            alike : (x : ℕ) → x < k → touches_of (machine windows pages) (notes_after (machine windows pages) k run before) c (k * length old.intervals + x) ≡ touches_on windows pages schedule (k * length old.intervals) (last_point old) c x
            alike x b =
                let f = note_on (k * length old.intervals + x) (omega arith) in
                let back : k * length old.intervals + x - k * length old.intervals ≡ x = omega arith in
                let e : notes_after (machine windows pages) k run before (k * length old.intervals + x) ≡ footprint_on windows pages schedule (k * length old.intervals) (last_point old) x =
                ap (λ b. cond b (before.notes (k * length old.intervals + x)) ((machine windows pages).footprint (event_at schedule (k * length old.intervals + x)) (state_after (machine windows pages) k run before (k * length old.intervals + x)))) (le-ltb (k * length old.intervals + x) (k * length old.intervals) (omega arith))
                ∙ f ∙ ap (footprint_on windows pages schedule (k * length old.intervals) (last_point old)) back in
                ap (λ (p : Footprint Cell). p.reads c || p.writes c) e

            spans : k * length old.intervals ≤ n → n < k * suc (length old.intervals) → n / k ≡ length old.intervals
                → some_from n (next_checkpoint k n) (touches_of (machine windows pages) (notes_after (machine windows pages) k run before) c) ≡ some_from (n - k * length old.intervals) k (touches_on windows pages schedule (k * length old.intervals) (last_point old) c)
            spans l h d =
                ap₂ (λ x y. some_from x y (touches_of (machine windows pages) (notes_after (machine windows pages) k run before) c)) (sym (place n l)) (ap (λ x. k * x + k) d)
                ∙ shifted (k * length old.intervals) (n - k * length old.intervals) k (touches_of (machine windows pages) (notes_after (machine windows pages) k run before) c)
                ∙ some_from-like (n - k * length old.intervals) k _ (touches_on windows pages schedule (k * length old.intervals) (last_point old) c) alike
        go (inr l) (inr h) =
            let past : length new.intervals ≤ n / k = rw (interval_is, length-append) ((le-div_iff_mul-le pos).1 (omega (arith, mul_comm (suc (length old.intervals)) k, h))) in
            rw (le-ltb n (k * length old.intervals) l, le-ltb n (k * suc (length old.intervals)) h, get_or_past new.intervals (n / k) no_interval past)

    agrees : history.Agrees (machine windows pages) k (extended (machine windows pages) k run before) after
    agrees = record {
      count = ap (λ (xs : List Interval). length xs) interval_is ∙ length-append old.intervals (steps ∷ []) ∙ omega arith;
      points = new_points;
      notes = new_notes;
      kept = new_kept;
    }

  pub extended_is : IsExtended windows pages k schedule old new
  extended_is = record {
    agrees = agrees;
    new_signs = ap (λ xs. (get_or xs (length old.intervals) no_interval).signs) interval_is
        ∙ ap (λ (x : Interval). x.signs) (get_or-append_seam old.intervals steps [] no_interval) ∙ recorded.signs;
    signs = λ i h. ap (λ xs. (get_or xs i no_interval).signs) interval_is
        ∙ ap (λ (x : Interval). x.signs) (get_or_append_left old.intervals (steps ∷ []) no_interval i h);
  }

-- what holds of the last checkpoint
pub last_new : (k : ℕ) (old new : Recording) (s : State) (steps : Interval) (P : State → ℕ → Type 0) → length old.points ≡ length old.intervals + 1
    → new.points ≡ old.points ++ s ∷ [] → new.intervals ≡ old.intervals ++ steps ∷ [] → P s (k * length old.intervals + k) → P (last_point new) (k * length new.intervals)
last_new k old new s steps P long points intervals h =
    let count : length new.intervals ≡ length old.intervals + 1 = ap (λ (xs : List Interval). length xs) intervals ∙ length-append old.intervals (steps ∷ []) in
    let at : length new.intervals ≡ length old.points = omega (arith, count, long) in
    let last : last_point new ≡ s = ap₂ (λ xs i. get_or xs i blank) points at ∙ get_or-append_seam old.points s [] blank in
    let n : k * length new.intervals ≡ k * length old.intervals + k = ap (λ x. k * x) count ∙ omega arith in
    rw (last, n) h
