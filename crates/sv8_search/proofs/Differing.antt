-- Words that differ: the one that is found from an address on is the next one of them.
use Rattle.std.proofs.Common.{◌≡◌, ◌∙◌, ℕ, zero, suc, ◌+◌, ◌-◌, ◌*◌, ◌/◌, ◌%◌, ◌<◌, ◌≤◌, Bool, true, false, if◌then◌else◌, List, [], ◌∷◌, ◌++◌, map, append_assoc, append-nil, Option, Some, None, MatchOption, refl, sym, ap, subst, arith}
use Rattle.std.proofs.lemmas.Bool.Decides.{nat_tests}
use Rattle.sv8_model.specs.Outside.{word_of}
use Rattle.sv8_phys.specs.Differences.{next_difference, IsSameWord, IsNextDifference, AreSameFrom}
use Rattle.sv8_phys.proofs.Difference.{differences_are_least}
use Rattle.sv8_search.specs.declared.difference.Difference.{Difference}
use Rattle.sv8_search.specs.Search.{rising}
use Rattle.sv8_search.specs.Comparing.{differs_at, difference_at, differences}
use Rattle.sv8_search.proofs.Passed.{none_of}
use Rattle.sv8_search.proofs.Passing.{rising_passed}

-- the words that differ from an address on, at most so many of them
abbrev pub differences_from : List ℕ → List ℕ → ℕ → ℕ → ℕ → List Difference
differences_from before now size at most = map (difference_at before now) (rising (differs_at before now) (at / 4) (size / 4 - at / 4) most)

-- from the first one on they are all
pub all_differences : (before now : List ℕ) (size most : ℕ) → differences_from before now size 0 most ≡ differences size before now most
all_differences before now size most =
    let whole : size / 4 - 0 / 4 ≡ size / 4 = omega arith in
    ap (λ n. map (difference_at before now) (rising (differs_at before now) 0 n most)) whole

-- none are none
pub none_wanted : (before now : List ℕ) (size at : ℕ) → differences_from before now size at 0 ≡ []
none_wanted before now size at = ap (map (difference_at before now)) (go (at / 4) (size / 4 - at / 4)) where
  go : (k count : ℕ) → rising (differs_at before now) k count 0 ≡ []
  go k zero = refl
  go k (suc count) = refl

module _ (before now : List ℕ) (size from : ℕ) (whole : size % 4 ≡ 0) (aligned : from % 4 ≡ 0) where
  wanted : ℕ → Bool
  wanted = differs_at before now

  -- words that are the same up to an address are no differences
  same_up_to : (at : ℕ) → ((a : ℕ) → a % 4 ≡ 0 → from ≤ a → a < at → IsSameWord now before a) → at % 4 ≡ 0 → (i : ℕ) → from / 4 ≤ i → i < at / 4 → wanted i ≡ false
  unfolding wanted
  same_up_to at same at_aligned i low below =
      let here : 4 * i / 4 ≡ i = omega arith in
      let word : word_of now i ≡ word_of before i = subst (λ j. word_of now j ≡ word_of before j) here (same (4 * i) (omega arith) (omega (arith, low, aligned)) (omega (arith, below))) in
      grind (arith, nat_tests)

  -- what is found: the next one, or none
  Found : ℕ → Option ℕ → Type 0
  Found most r = MatchOption r (differences_from before now size from most ≡ [])
      (λ address. differences_from before now size from most ≡ difference_at before now (address / 4) ∷ differences_from before now size (address + 4) (most - 1))

  next_of : (most address : ℕ) → 0 < most → IsNextDifference size now before from address → Found most (Some address)
  unfolding wanted Found
  next_of most address some it =
      let k = address / 4 in
      let more : most ≡ suc (most - 1) = omega (arith, some) in
      let left : size / 4 - k ≡ suc (size / 4 - (address + 4) / 4) = omega (arith, it.within, whole, it.aligned) in
      let next : k + 1 ≡ (address + 4) / 4 = omega arith in
      let differs : wanted k ≡ true = let apart = it.differs in grind (arith, nat_tests, apart) in
      ap (map (difference_at before now))
      (sym (rising_passed wanted (from / 4) k (size / 4) most (omega (arith, it.not_below)) (omega (arith, it.within)) some (same_up_to address it.least it.aligned))
      ∙ ap (rising wanted k (size / 4 - k)) more ∙ ap (λ b. rising wanted k b (suc (most - 1))) left ∙ ap (λ b. if b then k ∷ rising wanted (k + 1) (size / 4 - (address + 4) / 4) (most - 1)
      else rising wanted (k + 1) (size / 4 - (address + 4) / 4) (suc (most - 1))) differs ∙ ap (λ j. k ∷ rising wanted j (size / 4 - (address + 4) / 4) (most - 1)) next)

  found : (most : ℕ) (r : Option ℕ) → 0 < most → MatchOption r (AreSameFrom size now before from) (λ at. IsNextDifference size now before from at) → Found most r
  unfolding wanted Found
  found most None some h =
      ap (map (difference_at before now)) (none_of wanted (size / 4 - from / 4) (from / 4) most (λ i low below. same_up_to size h whole i low (omega (arith, below, low))))
  found most (Some address) some h = next_of most address some h

  found_by : (most : ℕ) (r : Option ℕ) → 0 < most → next_difference size now before from ≡ r → Found most r
  found_by most r some e = subst (Found most) e (found most _ some (differences_are_least size from now before whole aligned))

  -- one that is found, with those that were found before it
  pub found_next : (xs : List Difference) (most address : ℕ) (all : List Difference) → 0 < most → next_difference size now before from ≡ Some address
      → xs ++ differences_from before now size from most ≡ all
      → (xs ++ difference_at before now (address / 4) ∷ []) ++ differences_from before now size (address + 4) (most - 1) ≡ all
  unfolding Found
  found_next xs most address all some e h =
      append_assoc xs (difference_at before now (address / 4) ∷ []) _ ∙ ap (λ ys. xs ++ ys) (sym (found_by most (Some address) some e)) ∙ h

  -- none is found
  pub found_none : (xs : List Difference) (most : ℕ) (all : List Difference) → 0 < most → next_difference size now before from ≡ None
      → xs ++ differences_from before now size from most ≡ all → xs ≡ all
  unfolding Found
  found_none xs most all some e h = sym (append-nil xs) ∙ ap (λ ys. xs ++ ys) (sym (found_by most None some e)) ∙ h

-- a word that differs, as it is told
pub difference_is : (before now : List ℕ) (address old new : ℕ) → address % 4 ≡ 0 → old ≡ word_of before (address / 4) → new ≡ word_of now (address / 4)
    → difference_at before now (address / 4) ≡ record { address = address; old = old; new = new }
difference_is before now address old new aligned e f =
    let here : 4 * (address / 4) ≡ address = omega (arith, aligned) in
    rw (here, e, f) refl
