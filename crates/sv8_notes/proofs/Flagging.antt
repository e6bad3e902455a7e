-- Flags of the steps of notes.
use Rattle.std.proofs.Common.{◌≡◌, ◌≢◌, ◌⊎◌, inl, inr, ℕ, ◌+◌, ◌≤◌, ◌<◌, ◌==◌, Bool, true, false, MatchBool, List, length, set, get_or, refl, sym, ◌∙◌, ap, ap₂, arith}
use Rattle.std.specs.Prelude.{nat_lt, ◌&&◌, ◌||◌}
use Rattle.std.proofs.lemmas.Bool.{cases_eq, cases_lt, true≢false}
use Rattle.std.proofs.lemmas.Bool.Decides.{nat_tests}
use Rattle.std.proofs.lemmas.Grind.{get_or-set_at}
use Rattle.std.proofs.lemmas.List.{get_or-set_other, length-set}
use Rattle.sv8_notes.specs.Flags.{IsFlagged, IsFlaggedUnless}
use Rattle.sv8_notes.proofs.Gaining.{or_none, or_groups}

or_true : (b : Bool) → (b || true) ≡ true
or_true true = refl
or_true false = refl

-- ---- flags

-- none of some steps
pub flag_none : (xs : List Bool) (f : ℕ → Bool) → ((i : ℕ) → i < length xs → f i ≡ false) → IsFlagged f xs xs
flag_none xs f none = record {
  count = refl;
  flags = λ i h. sym (ap (λ b. get_or xs i false || b) (none i h) ∙ or_none (get_or xs i false));
}

-- one step
pub flag_set : (xs : List Bool) (f : ℕ → Bool) (p : ℕ) → p < length xs → ((i : ℕ) → f i ≡ (p == i)) → IsFlagged f xs (set xs p true)
flag_set xs f p inside one = record { count = length-set xs p true; flags = λ i h. by_case i (cases_eq i p) }
  where
    by_case : (i : ℕ) → (i ≡ p) ⊎ (i ≢ p) → get_or (set xs p true) i false ≡ (get_or xs i false || f i)
    by_case i (inl e) =
        let there : (p == i) ≡ true = grind (arith, nat_tests, e) in
        get_or-set_at xs p i true false e inside ∙ sym (ap (λ b. get_or xs i false || b) (one i ∙ there) ∙ or_true (get_or xs i false))
    by_case i (inr other) =
        let elsewhere : (p == i) ≡ false = grind (arith, nat_tests, other) in
        get_or-set_other xs p i true false other ∙ sym (ap (λ b. get_or xs i false || b) (one i ∙ elsewhere) ∙ or_none (get_or xs i false))

-- some steps and then others
pub flag_both : (xs ys zs : List Bool) (f g h : ℕ → Bool) → IsFlagged f xs ys → IsFlagged g ys zs → ((i : ℕ) → h i ≡ (f i || g i)) → IsFlagged h xs zs
flag_both xs ys zs f g h first second both = record {
  count = second.count ∙ first.count;
  flags = λ i inside. second.flags i (omega (arith, inside, first.count)) ∙ ap (λ b. b || g i) (first.flags i inside) ∙ sym (ap (λ b. get_or xs i false || b) (both i) ∙ or_groups (get_or xs i false) (f i) (g i));
}

-- the flags so far, and those of the steps that are left
pub flag_next : (xs ys : List Bool) (f g h : ℕ → Bool) → IsFlagged f xs ys → ((i : ℕ) → h i ≡ (f i || g i)) → (i : ℕ) → i < length xs
    → (get_or ys i false || g i) ≡ (get_or xs i false || h i)
flag_next xs ys f g h first both i inside =
    ap (λ b. b || g i) (first.flags i inside) ∙ sym (ap (λ b. get_or xs i false || b) (both i) ∙ or_groups (get_or xs i false) (f i) (g i))

-- all of them but those that are spared
pub flag_unless : (xs ys : List Bool) (f : ℕ → Bool) (Spared : ℕ → Type 0) → IsFlagged f xs ys → ((i : ℕ) → i < length xs → MatchBool (f i) (Spared i → ⊥) (Spared i))
    → IsFlaggedUnless Spared xs ys
flag_unless xs ys f Spared h spared = record {
  count = h.count;
  flags = λ i inside. by_case i (f i) (get_or xs i false) (get_or ys i false) refl (h.flags i inside) (spared i inside);
}
  where
    by_case : (i : ℕ) (here old new : Bool) → get_or xs i false ≡ old → new ≡ (old || here) → MatchBool here (Spared i → ⊥) (Spared i)
        → MatchBool new ((get_or xs i false ≡ true) ⊎ (Spared i → ⊥)) ((get_or xs i false ≡ false) × Spared i)
    by_case i here true true was e h = inl was
    by_case i true false true was e h = inr h
    by_case i false false false was e h = (was, h)
    by_case i here true false was e h = absurd (true≢false (sym e))
    by_case i true false false was e h = absurd (true≢false (sym e))
    by_case i false false true was e h = absurd (true≢false e)

-- ---- the flags of the first steps, one more at a time

abbrev pub below : (ℕ → Bool) → ℕ → ℕ → Bool
below f place i = nat_lt i place && f i

module _ (xs ys : List Bool) (f : ℕ → Bool) (p : ℕ) (inside : p < length xs) (before : IsFlagged (below f p) xs ys) where
  one_more : (i : ℕ) → below f (p + 1) i ≡ (below f p i || ((p == i) && f i))
  one_more i = elim (cases_lt i p) [
    | inl less ↦
        let first : nat_lt i p ≡ true = grind (arith, nat_tests, less) in
        let more : nat_lt i (p + 1) ≡ true = grind (arith, nat_tests, less) in
        let other : (p == i) ≡ false = grind (arith, nat_tests, less) in
        ap (λ b. b && f i) more ∙ sym (ap₂ (λ a b. (a && f i) || (b && f i)) first other ∙ or_none (f i))
    | inr low ↦ here low (cases_lt p i)
  ]
    where
      here : p ≤ i → (p < i) ⊎ (i ≤ p) → below f (p + 1) i ≡ (below f p i || ((p == i) && f i))
      here low (inl past) =
          let first : nat_lt i p ≡ false = grind (arith, nat_tests, low) in
          let more : nat_lt i (p + 1) ≡ false = grind (arith, nat_tests, past) in
          let other : (p == i) ≡ false = grind (arith, nat_tests, past) in
          ap (λ b. b && f i) more ∙ sym (ap₂ (λ a b. (a && f i) || (b && f i)) first other)
      here low (inr high) =
          let first : nat_lt i p ≡ false = grind (arith, nat_tests, low) in
          let more : nat_lt i (p + 1) ≡ true = grind (arith, nat_tests, high) in
          let same : (p == i) ≡ true = grind (arith, nat_tests, low, high) in
          ap (λ b. b && f i) more ∙ sym (ap₂ (λ a b. (a && f i) || (b && f i)) first same)

  -- the next one is one of the steps
  pub flag_more : f p ≡ true → IsFlagged (below f (p + 1)) xs (set ys p true)
  flag_more it =
      flag_both xs ys (set ys p true) (below f p) (λ i. (p == i) && f i) (below f (p + 1)) before
      (flag_set ys (λ i. (p == i) && f i) p (omega (arith, inside, before.count)) (λ i. met i (cases_eq i p))) one_more
    where
      met : (i : ℕ) → (i ≡ p) ⊎ (i ≢ p) → ((p == i) && f i) ≡ (p == i)
      met i (inl e) =
          let same : (p == i) ≡ true = grind (arith, nat_tests, e) in
          ap (λ b. b && f i) same ∙ ap f e ∙ it ∙ sym same
      met i (inr other) =
          let apart : (p == i) ≡ false = grind (arith, nat_tests, other) in
          ap (λ b. b && f i) apart ∙ sym apart

  -- .. or is not
  pub flag_pass : f p ≡ false → IsFlagged (below f (p + 1)) xs ys
  flag_pass it =
      flag_both xs ys ys (below f p) (λ i. (p == i) && f i) (below f (p + 1)) before (flag_none ys (λ i. (p == i) && f i) (λ i h. missed i (cases_eq i p))) one_more
    where
      missed : (i : ℕ) → (i ≡ p) ⊎ (i ≢ p) → ((p == i) && f i) ≡ false
      missed i (inl e) =
          let same : (p == i) ≡ true = grind (arith, nat_tests, e) in
          ap (λ b. b && f i) same ∙ ap f e ∙ it
      missed i (inr other) =
          let apart : (p == i) ≡ false = grind (arith, nat_tests, other) in
          ap (λ b. b && f i) apart
