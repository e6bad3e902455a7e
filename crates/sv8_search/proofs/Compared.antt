-- The bytes that conditions compare.
use Rattle.std.proofs.Common.{◌≡◌, ◌∙◌, ℕ, suc, ◌+◌, ◌-◌, ◌<◌, ◌≤◌, Bool, true, false, ◌||◌, List, [], ◌∷◌, ◌++◌, length, get_or, append_assoc, take, drop, refl, sym, ap, arith}
use Rattle.std.specs.List.{list_any}
use Rattle.std.proofs.lemmas.List.{length-take, length-drop, length-append, take_at, drop_at, take_more, take_all, get_or-drop}
use Rattle.std.proofs.lemmas.Bool.{leb-true, and_parts, or_left}
use Rattle.sv8_cpu.specs.State.{State}
use Rattle.sv8_watch.specs.declared.condition.Condition.{Condition}
use Rattle.sv8_watch.specs.declared.condition.Condition.TheVariants.{Change}
use Rattle.sv8_watch.specs.Conditions.{bytes_from, AreOld, IsWithin}
use Rattle.sv8_search.specs.Search.{is_inside, are_inside, old_count, olds_count, old_of, olds_of}

-- no condition has more bytes than it compares
few_old : (c : Condition) (ram : List ℕ) → length (old_of c ram) ≤ old_count c
few_old (Change address count) ram = let long = length-take count (drop address ram) in omega (arith, long)
few_old c ram = omega arith

few_olds : (cs : List Condition) (ram : List ℕ) → length (olds_of cs ram) ≤ olds_count cs
few_olds [] ram = omega arith
few_olds (c ∷ cs) ram =
    let long = length-append (old_of c ram) (olds_of cs ram) in
    let one = few_old c ram in
    let others = few_olds cs ram in
    omega (arith, long, one, others)

-- where no bytes were compared, none are
pub none_again : (cs : List Condition) (ram old : List ℕ) → length old ≡ olds_count cs → length old ≡ 0 → old ≡ olds_of cs ram
none_again cs ram old e none =
    let few = few_olds cs ram in
    nothing old none ∙ sym (nothing (olds_of cs ram) (omega (arith, few, e, none)))
  where
    nothing : (xs : List ℕ) → length xs ≡ 0 → xs ≡ []
    nothing [] h = refl
    nothing (x ∷ xs) h = absurd (omega (arith, h))

module _ (c : Condition) (cs : List Condition) (ram old : List ℕ) (e : old ≡ olds_of (c ∷ cs) ram) (f : length old ≡ olds_count (c ∷ cs)) where
  all_old : length (old_of c ram) ≡ old_count c
  all_old =
      let long = ap length e ∙ length-append (old_of c ram) (olds_of cs ram) in
      let one = few_old c ram in
      let others = few_olds cs ram in
      omega (arith, f, long, one, others)

  -- the bytes of the first condition, and those of the others
  pub own_old : take (old_count c) old ≡ old_of c ram
  own_old = ap (take (old_count c)) e ∙ take_at (old_of c ram) (olds_of cs ram) (old_count c) all_old

  pub rest_old : drop (old_count c) old ≡ olds_of cs ram
  rest_old = ap (drop (old_count c)) e ∙ drop_at (old_of c ram) (olds_of cs ram) (old_count c) all_old

-- as a condition asks for them
pub are_old : (c : Condition) (own : List ℕ) (s : State) → own ≡ old_of c s.memory.ram → AreOld c own s
are_old (Change address count) own s e = e
are_old c own s e = tt

-- ---- one condition after the other

pub first_and_rest : {A : Type 0} (xs : List A) (d : A) → 1 ≤ length xs → xs ≡ get_or xs 0 d ∷ take (length xs - 1) (drop 1 xs)
first_and_rest [] d some = absurd (omega (arith, some))
first_and_rest (x ∷ xs) d some =
    let all : suc (length xs) - 1 ≡ length xs = omega arith in
    ap (λ ys. x ∷ ys) (sym (ap (λ n. take n xs) all ∙ take_all (length xs) xs (omega arith)))

module _ (c : Condition) (cs all : List Condition) (whole : all ≡ c ∷ cs) where
  pub others_inside : (size : ℕ) → are_inside size all ≡ true → are_inside size cs ≡ true
  others_inside size h = (and_parts (is_inside size c) (are_inside size cs) (sym (ap (are_inside size) whole) ∙ h)).1

  pub others_count : (bytes others : List ℕ) (n : ℕ) → length bytes ≡ olds_count all → n ≡ old_count c → length others + n ≡ length bytes → length others ≡ olds_count cs
  others_count bytes others n e g f =
      let counted = e ∙ ap olds_count whole in
      omega (arith, counted, f, g)

  pub others_old : (bytes others ram : List ℕ) (n : ℕ) → length bytes ≡ olds_count all → bytes ≡ olds_of all ram → n ≡ old_count c → others ≡ drop n bytes → others ≡ olds_of cs ram
  others_old bytes others ram n e f g h =
      h ∙ ap (λ m. drop m bytes) g ∙ rest_old c cs ram bytes (f ∙ ap (λ xs. olds_of xs ram) whole) (e ∙ ap olds_count whole)

  pub first_old : (bytes own : List ℕ) (s : State) (n : ℕ) → length bytes ≡ olds_count all → bytes ≡ olds_of all s.memory.ram → n ≡ old_count c → own ≡ take n bytes → AreOld c own s
  first_old bytes own s n e f g h =
      are_old c own s (h ∙ ap (λ m. take m bytes) g ∙ own_old c cs s.memory.ram bytes (f ∙ ap (λ xs. olds_of xs s.memory.ram) whole) (e ∙ ap olds_count whole))

  pub any_here : (test : Condition → Bool) (b : Bool) → b ≡ test c → b ≡ true → true ≡ list_any test all
  any_here test b e t = sym (ap (list_any test) whole ∙ or_left (test c) (list_any test cs) (sym e ∙ t))

  pub any_later : (test : Condition → Bool) (b : Bool) → b ≡ test c → b ≡ false → list_any test cs ≡ list_any test all
  any_later test b e f = sym (ap (list_any test) whole ∙ ap (λ x. x || list_any test cs) (sym e ∙ f))
