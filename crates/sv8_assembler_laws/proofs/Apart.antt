-- No word fits two rows.
use Rattle.std.proofs.Common.{◌≡◌, ℕ, ◌≤◌, Bool, true, false, not, ◌&&◌, ◌||◌, ◌==◌, ◌⊎◌, inl, inr, List, [], ◌∷◌, refl, sym, ◌∙◌, arith, cond, zero-add}
use Rattle.std.specs.Prelude.{count_by}
use Rattle.std.specs.List.{list_all, list_any}
use Rattle.std.proofs.lemmas.Bool.{eqb-true, eqb-false, cases_Bool, not-true}
use Rattle.std.proofs.lemmas.List.Sums.{sum_by-cons}
use Rattle.sv8_model.specs.Words.{field}
use Rattle.sv8_isa.specs.Table.{value, high, low, Fixed, Row, fits, table}
use Rattle.sv8_assembler_laws.specs.WordLaws.{RowsAreApart}
use Rattle.sv8_isa.proofs.Rows.{both}

-- the two fix one field to different values
abbrev pub differ : Fixed → Fixed → Bool
differ f g = (high f.at == high g.at && low f.at == low g.at) && not (f.code == g.code)

abbrev pub apart : Row → Row → Bool
apart r s = list_any (λ f. list_any (λ g. differ f g) s.fixed) r.fixed

abbrev pub all_apart : List Row → Bool
all_apart [] = true
all_apart (r ∷ rs) = list_all (apart r) rs && all_apart rs

either : (a b : Bool) → (a || b) ≡ true → (a ≡ true) ⊎ (b ≡ true)
either true b h = inl refl
either false b h = inr h

clash_one : (w : ℕ) (f g : Fixed) → differ f g ≡ true → (value f.at w == f.code) ≡ true → (value g.at w == g.code) ≡ true → ⊥
clash_one w f g d a b =
    let p = both (high f.at == high g.at && low f.at == low g.at) (not (f.code == g.code)) d in
    let q = both (high f.at == high g.at) (low f.at == low g.at) p.0 in
    let h : high f.at ≡ high g.at = eqb-true _ _ q.0 in
    let l : low f.at ≡ low g.at = eqb-true _ _ q.1 in
    let e : field w (high f.at) (low f.at) ≡ field w (high g.at) (low g.at) = rw (h, l) refl in
    eqb-false f.code g.code (not-true _ p.1) (sym (eqb-true _ _ a) ∙ e ∙ eqb-true _ _ b)

clash_fixed : (w : ℕ) (f : Fixed) (gs : List Fixed) → list_any (λ g. differ f g) gs ≡ true → (value f.at w == f.code) ≡ true → list_all (λ g. value g.at w == g.code) gs ≡ true → ⊥
clash_fixed w f [] d a b = cc
clash_fixed w f (g ∷ gs) d a b =
    let m = both _ _ b in
    elim (either _ _ d) [ inl x ↦ clash_one w f g x a m.0 | inr x ↦ clash_fixed w f gs x a m.1 ]

clash : (w : ℕ) (fs gs : List Fixed) → list_any (λ f. list_any (λ g. differ f g) gs) fs ≡ true → list_all (λ f. value f.at w == f.code) fs ≡ true → list_all (λ g. value g.at w == g.code) gs ≡ true → ⊥
clash w [] gs d a b = cc
clash w (f ∷ fs) gs d a b =
    let m = both _ _ a in
    elim (either _ _ d) [ inl x ↦ clash_fixed w f gs x m.0 b | inr x ↦ clash w fs gs x m.1 b ]

none_after : (w : ℕ) (r : Row) (rs : List Row) → fits w r ≡ true → list_all (apart r) rs ≡ true → count_by (fits w) rs ≡ 0
none_after w r [] a h = refl
none_after w r (s ∷ rs) a h =
    let m = both (apart r s) (list_all (apart r) rs) h in
    elim (cases_Bool (fits w s)) [
      | inl b ↦ absurd (clash w r.fixed s.fixed m.0 a b)
      | inr b ↦ sum_by-cons (λ x. cond (fits w x) 1 0) s rs ∙ rw (b, zero-add) (none_after w r rs a m.1)
    ]

at_most_one : (w : ℕ) (rs : List Row) → all_apart rs ≡ true → count_by (fits w) rs ≤ 1
at_most_one w [] h = omega arith
at_most_one w (r ∷ rs) h =
    let m = both (list_all (apart r) rs) (all_apart rs) h in
    let step = sum_by-cons (λ x. cond (fits w x) 1 0) r rs in
    elim (cases_Bool (fits w r)) [
      | inl a ↦ rw (step, a, none_after w r rs a m.0) (omega arith)
      | inr a ↦ rw (step, a, zero-add) (at_most_one w rs m.1)
    ]

computed : all_apart table ≡ true
computed = refl

pub rows_are_apart_lem : RowsAreApart
rows_are_apart_lem w = at_most_one w table computed
