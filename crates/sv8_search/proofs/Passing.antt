-- Steps of a rising search that are passed over: none of them is wanted, so what is left to tell is what was left before them.
use Rattle.std.proofs.Common.{◌≡◌, ◌∙◌, ℕ, zero, suc, ◌+◌, ◌-◌, ◌<◌, ◌≤◌, Bool, false, List, ◌++◌, map, refl, sym, ap, subst, arith}
use Rattle.sv8_workbench.specs.Kept.{Kept}
use Rattle.sv8_watch.specs.declared.condition.Condition.{Condition}
use Rattle.sv8_search.specs.declared.found.Found.{Found}
use Rattle.sv8_search.specs.Search.{found_at, is_wanted, rising, looked_to}

-- ---- what is told

-- what goes over each step that is not wanted goes over several of them
module _ {A : Type 0} (wanted : ℕ → Bool) (f : ℕ → ℕ → ℕ → A) (over : (n b m : ℕ) → wanted n ≡ false → f n (suc b) (suc m) ≡ f (n + 1) b (suc m)) where
  over_many : (size n rest m : ℕ) → ((i : ℕ) → n ≤ i → i < n + size → wanted i ≡ false) → f n (size + rest) (suc m) ≡ f (n + size) rest (suc m)
  over_many zero n rest m none =
      let here : n ≡ n + 0 = omega arith in
      let same : 0 + rest ≡ rest = omega arith in
      ap (λ b. f n b (suc m)) same ∙ ap (λ i. f i rest (suc m)) here
  over_many (suc size) n rest m none =
      let more : suc size + rest ≡ suc (size + rest) = omega arith in
      let there : n + 1 + size ≡ n + suc size = omega arith in
      ap (λ b. f n b (suc m)) more ∙ over n (size + rest) m (none n (omega arith) (omega arith))
      ∙ over_many size (n + 1) rest m (λ i low below. none i (omega (arith, low)) (omega (arith, below))) ∙ ap (λ i. f i rest (suc m)) there

  over_range : (n end to left : ℕ) → n ≤ end → end ≤ to → 0 < left → ((i : ℕ) → n ≤ i → i < end → wanted i ≡ false) → f end (to - end) left ≡ f n (to - n) left
  over_range n end to left low high some none =
      let both : (end - n) + (to - end) ≡ to - n = omega (arith, low, high) in
      let there : n + (end - n) ≡ end = omega (arith, low) in
      let more : suc (left - 1) ≡ left = omega (arith, some) in
      sym
      (ap (λ b. f n b left) (sym both) ∙ ap (f n ((end - n) + (to - end))) (sym more)
      ∙ over_many (end - n) n (to - end) (left - 1) (λ i least below. none i least (omega (arith, below, low)))
      ∙ ap (λ i. f i (to - end) (suc (left - 1))) there ∙ ap (f end (to - end)) more)

module _ (wanted : ℕ → Bool) where
  rising_over : (n b m : ℕ) → wanted n ≡ false → rising wanted n (suc b) (suc m) ≡ rising wanted (n + 1) b (suc m)
  rising_over n b m none = rw none refl

  looked_over : (n b m : ℕ) → wanted n ≡ false → looked_to wanted n (suc b) (suc m) ≡ looked_to wanted (n + 1) b (suc m)
  looked_over n b m none = rw none refl

  -- what is told behind steps of which none is wanted, and how far it looks
  module _ (n end to left : ℕ) (low : n ≤ end) (high : end ≤ to) (some : 0 < left) (none : (i : ℕ) → n ≤ i → i < end → wanted i ≡ false) where
    pub rising_passed : rising wanted end (to - end) left ≡ rising wanted n (to - n) left
    rising_passed = over_range wanted (rising wanted) rising_over n end to left low high some none

    pub found_passed : {A : Type 0} (told : ℕ → A) (found : List A) (m : ℕ) → m ≡ end
        → found ++ map told (rising wanted m (to - m) left) ≡ found ++ map told (rising wanted n (to - n) left)
    found_passed told found m at = ap (λ i. found ++ map told (rising wanted i (to - i) left)) at ∙ ap (λ xs. found ++ map told xs) rising_passed

    pub looked_passed : (m : ℕ) → m ≡ end → looked_to wanted m (to - m) left ≡ looked_to wanted n (to - n) left
    looked_passed m at = ap (λ i. looked_to wanted i (to - i) left) at ∙ over_range wanted (looked_to wanted) looked_over n end to left low high some none

-- what was told so far, and how far it looks, of what is kept, which stays the same
module _ (now kept : Kept) (cs : List Condition) (same : now ≡ kept) where
  pub found_on : (n later to left next : ℕ) (before after all : List Found)
      → after ++ map (found_at now) (rising (is_wanted now cs) later (to - later) next) ≡ before ++ map (found_at now) (rising (is_wanted now cs) n (to - n) left)
      → before ++ map (found_at kept) (rising (is_wanted kept cs) n (to - n) left) ≡ all → after ++ map (found_at kept) (rising (is_wanted kept cs) later (to - later) next) ≡ all
  found_on n later to left next before after all e f =
      subst
      (λ (k : Kept). after ++ map (found_at k) (rising (is_wanted k cs) later (to - later) next) ≡ before ++ map (found_at k) (rising (is_wanted k cs) n (to - n) left)) same e
      ∙ f

  pub looked_on : (n later to left next end : ℕ) → looked_to (is_wanted now cs) later (to - later) next ≡ looked_to (is_wanted now cs) n (to - n) left
      → looked_to (is_wanted kept cs) n (to - n) left ≡ end → looked_to (is_wanted kept cs) later (to - later) next ≡ end
  looked_on n later to left next end e f =
      subst (λ (k : Kept). looked_to (is_wanted k cs) later (to - later) next ≡ looked_to (is_wanted k cs) n (to - n) left) same e ∙ f
