-- What marks of words say of intervals.
use Rattle.std.proofs.Common.{◌≡◌, ℕ, ◌+◌, ◌*◌, ◌/◌, ◌%◌, ◌≤◌, ◌<◌, List, [], ◌∷◌, ◌++◌, length, length-append, get_or, Bool, false, min, Option, Some, None, ◌∙◌, ap, arith, inl, inr, ◌⊎◌, le-div_iff_mul-le, div-lt_iff_lt-mul, mul_comm}
use Rattle.std.proofs.lemmas.Bool.{cases_lt}
use Rattle.std.proofs.lemmas.List.{get_or_append_left}
use Rattle.std.proofs.Math.Seq.{get_or-append_seam}
use Rattle.sv8_notes.specs.declared.notes.Sought.{Sought}
use Rattle.sv8_notes.specs.Sought.{is_met, sought_word}
use Rattle.sv8_notes.specs.Steps.{IsFirstBelow}
use Rattle.sv8_notes.specs.Marks.{mark_of, IsUntouched}
use Rattle.sv8_notes.proofs.Common.{unmet}
use Rattle.sv8_trace.specs.declared.interval.Interval.{Interval}
use Rattle.sv8_trace.specs.Marks.{AreMarked}
use Rattle.sv8_trace.specs.Recording.{Recording, no_interval, trace_of}

-- ---- the intervals

module _ (old new : List (List ℕ)) (grows : (a : ℕ) → mark_of old a ≤ mark_of new a) (xs : List Interval) (marked : AreMarked old xs) where
  pub marked_still : AreMarked new xs
  marked_still i a h below = let g = grows a in marked i a h (omega (arith, g, below))

  pub marked_more : (ys : List Interval) (x : Interval) → ys ≡ xs ++ x ∷ [] → ((a : ℕ) → mark_of new a < length xs + 1 → IsUntouched x.notes a) → AreMarked new ys
  marked_more ys x is here i a h below = rw is (go (cases_lt i (length xs)))
    where
      long : length ys ≡ length xs + 1
      long = ap length is ∙ length-append xs (x ∷ [])

      go : (i < length xs) ⊎ (length xs ≤ i) → IsUntouched (get_or (xs ++ x ∷ []) i no_interval).notes a
      go (inl l) = rw (get_or_append_left xs (x ∷ []) no_interval i l) (marked_still i a l below)
      go (inr l) =
          let e : i ≡ length xs = omega (arith, long, h, l) in
          rw (e, get_or-append_seam xs x [] no_interval) (here a (omega (arith, below, e)))

-- ---- the search

-- it is met by no step behind the intervals of the word's mark
pub unmet_behind : (windows pages k : ℕ) → 0 < k → (marks : List (List ℕ)) (xs : List Interval) (r : Recording) → xs ≡ r.intervals → AreMarked marks xs → (sought : Sought) (word : ℕ) → sought_word sought ≡ Some word
    → (n : ℕ) → k * min (mark_of marks word) (length xs) ≤ n → n < k * length r.intervals → is_met sought ((trace_of windows pages k r).notes n) ≡ false
unmet_behind windows pages k pos marks xs r is marked sought word e n low high =
    let count = ap length is in
    let i : n / k < length xs = (div-lt_iff_lt-mul pos).1 (omega (arith, ap (λ y. k * y) count, high, mul_comm (length xs) k)) in
    let j : min (mark_of marks word) (length xs) ≤ n / k = (le-div_iff_mul-le pos).1 (omega (arith, low, mul_comm (min (mark_of marks word) (length xs)) k)) in
    unmet sought word (n % k) (get_or r.intervals (n / k) no_interval).notes e (rw (← is) (marked (n / k) word i (omega (arith, i, j))))

-- nothing is found from there on
pub first_below : (f : ℕ → Bool) (from to end recorded : ℕ) (o : Option ℕ) → end ≤ recorded → ((n : ℕ) → end ≤ n → n < recorded → f n ≡ false) → IsFirstBelow f from (min to end) o → IsFirstBelow f from (min to recorded) o
first_below f from to end recorded None le none h = λ n a b. go n a b (cases_lt n end)
  where
    go : (n : ℕ) → from ≤ n → n < min to recorded → (n < end) ⊎ (end ≤ n) → f n ≡ false
    go n a b (inl l) = h n a (omega (arith, l, b))
    go n a b (inr l) = none n l (omega (arith, b))
first_below f from to end recorded (Some s) le none h = (h.0, (let l = h.1 in omega (arith, l, le)), h.2, h.3)
