-- What is told of a step, noted touch by touch.
use Rattle.std.proofs.Common.{◌≡◌, ◌≢◌, sym, ap, ◌∙◌, subst, ℕ, ◌+◌, ◌<◌, ◌≤◌, Bool, true, false, cond, List, [], ◌∷◌, ◌++◌, length, drop, take, get_or, bit_or, ne_eqb}
use Rattle.std.specs.List.{filter}
use Rattle.std.specs.Int.Bits.{or_zero_r}
use Rattle.std.proofs.Math.ListN.{drop_of_length-le}
use Rattle.std.proofs.lemmas.List.{append-nil, drop_more, take_more}
use Rattle.std.proofs.lemmas.List.Elements.{filter-append}
use Rattle.sv8_model.specs.declared.touch.Touch.{Touch}
use Rattle.sv8_model.specs.declared.touch.Touch.TheVariants.{Levels}
use Rattle.sv8_touches.specs.Told.{is_told, levels_of, levels_in, levels_note, told}
use Rattle.sv8_model.proofs.Bits.{or_groups}
use Rattle.sv8_notes.specs.Steps.{Steps, Gains}
use Rattle.sv8_notes.proofs.Gaining.{gains_then}

-- the levels of one touch more are gathered
pub levels_more : (gathered : ℕ) (ts : List Touch) (i : ℕ) (d : Touch) (w all : ℕ) → i < length ts → w ≡ levels_of (get_or ts i d) → bit_or gathered (levels_in (drop i ts)) ≡ all
    → bit_or (bit_or gathered w) (levels_in (drop (i + 1) ts)) ≡ all
levels_more gathered ts i d w all h e so_far =
    or_groups gathered w _ ∙ ap (bit_or gathered) (ap (λ v. bit_or v (levels_in (drop (i + 1) ts))) e
    ∙ ap levels_in (sym (drop_more ts i d h)))
    ∙ so_far

-- all levels are gathered once no touch is left
pub levels_all : (gathered : ℕ) (ts : List Touch) (i all : ℕ) → length ts ≤ i → bit_or gathered (levels_in (drop i ts)) ≡ all → gathered ≡ all
levels_all gathered ts i all h so_far = sym (ap (λ l. bit_or gathered (levels_in l)) (drop_of_length-le ts {i = i} h) ∙ or_zero_r gathered) ∙ so_far

filter_more : (p : Touch → Bool) (ts : List Touch) (i : ℕ) (d : Touch) → i < length ts → filter p (take (i + 1) ts) ≡ filter p (take i ts) ++ filter p (get_or ts i d ∷ [])
filter_more p ts i d h = ap (filter p) (take_more ts i d h) ∙ filter-append p (take i ts) (get_or ts i d ∷ [])

-- one touch more is noted as it stands
pub noted_more : (offset : ℕ) (p : Touch → Bool) (ts : List Touch) (i : ℕ) (d : Touch) (r s t : Steps) → i < length ts → p (get_or ts i d) ≡ true
    → Gains offset (filter p (take i ts)) (filter p (take i ts)) r s → Gains offset (get_or ts i d ∷ []) (get_or ts i d ∷ []) s t → Gains offset (filter p (take (i + 1) ts)) (filter p (take (i + 1) ts)) r t
noted_more offset p ts i d r s t h passes before one =
    let this = get_or ts i d in
    let all : filter p (take (i + 1) ts) ≡ filter p (take i ts) ++ this ∷ [] = filter_more p ts i d h ∙ ap (λ b. filter p (take i ts) ++ cond b (this ∷ []) []) passes in
    subst (λ l. Gains offset l l r t) (sym all) (gains_then offset (filter p (take i ts)) (this ∷ []) (filter p (take i ts)) (this ∷ []) r s t before one)

-- or it is not
pub noted_as_before : (offset : ℕ) (p : Touch → Bool) (ts : List Touch) (i : ℕ) (d : Touch) (r s : Steps) → i < length ts → p (get_or ts i d) ≡ false
    → Gains offset (filter p (take i ts)) (filter p (take i ts)) r s → Gains offset (filter p (take (i + 1) ts)) (filter p (take (i + 1) ts)) r s
noted_as_before offset p ts i d r s h fails before =
    let this = get_or ts i d in
    let all : filter p (take (i + 1) ts) ≡ filter p (take i ts) = filter_more p ts i d h ∙ ap (λ b. filter p (take i ts) ++ cond b (this ∷ []) []) fails ∙ append-nil (filter p (take i ts)) in
    subst (λ l. Gains offset l l r s) (sym all) before

-- no touch asks levels
pub told_alone : (offset : ℕ) (ts : List Touch) (levels : ℕ) (r s : Steps) → levels ≡ levels_in ts → levels ≡ 0 → Gains offset (filter (is_told ts) ts) (filter (is_told ts) ts) r s → Gains offset (told ts) (told ts) r s
unfolding told
told_alone offset ts levels r s all none p =
    let standing = filter (is_told ts) ts in
    let note : levels_note (levels_in ts) ≡ [] = ap levels_note (sym all ∙ none) in
    subst (λ l. Gains offset l l r s) (sym (ap (λ l. standing ++ l) note ∙ append-nil standing)) p

-- or all that any asks are noted at once
pub told_with_levels : (offset : ℕ) (ts : List Touch) (levels : ℕ) (r s t : Steps) → levels ≡ levels_in ts → levels ≢ 0 → Gains offset (filter (is_told ts) ts) (filter (is_told ts) ts) r s
    → Gains offset (Levels levels ∷ []) (Levels levels ∷ []) s t → Gains offset (told ts) (told ts) r t
unfolding told
told_with_levels offset ts levels r s t all some p q =
    let standing = filter (is_told ts) ts in
    let note : Levels levels ∷ [] ≡ levels_note (levels_in ts) = ap (λ b. cond b [] (Levels levels ∷ [])) (sym (ne_eqb levels 0 some)) ∙ ap levels_note all in
    subst (λ l. Gains offset (standing ++ l) (standing ++ l) r t) note (gains_then offset standing (Levels levels ∷ []) standing (Levels levels ∷ []) r s t p q)
