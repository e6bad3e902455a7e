-- The choice among traps.
use Rattle.std.proofs.Common.{◌≡◌, ◌⊎◌, inl, inr, ◌∙◌, Bool, true, false, cond, List, [], ◌∷◌, refl, sym, ap, arith}
use Rattle.std.proofs.lemmas.Bool.Decides.{nat_tests}
use Rattle.sv8_trap.specs.declared.table.Trap.{Trap}
use Rattle.sv8_trap.specs.declared.table.Row.{Row}
use Rattle.sv8_trap.specs.Table.{row_of, is_before, first_of, first_among}
use Rattle.sv8_part_laws.specs.TrapLaws.{IsOneOf}

-- "does not come before" is an order
not_before_itself : (a : Row) → is_before a a ≡ false
not_before_itself a = grind (arith, nat_tests)

not_before_either : (a b : Row) → is_before a b ≡ true → is_before b a ≡ false
not_before_either a b h = grind (arith, nat_tests)

not_before_through : (a b c : Row) → is_before a b ≡ false → is_before b c ≡ false → is_before a c ≡ false
not_before_through a b c h k = grind (arith, nat_tests)

-- of two traps neither comes before the first one
left : (t u : Trap) (b : Bool) → is_before (row_of u) (row_of t) ≡ b → is_before (row_of t) (row_of (cond b u t)) ≡ false
left t u true e = not_before_either (row_of u) (row_of t) e
left t u false e = not_before_itself (row_of t)

right : (t u : Trap) (b : Bool) → is_before (row_of u) (row_of t) ≡ b → is_before (row_of u) (row_of (cond b u t)) ≡ false
right t u true e = not_before_itself (row_of u)
right t u false e = e

head_first : (t : Trap) (ts : List Trap) → is_before (row_of t) (row_of (first_among t ts)) ≡ false
head_first t [] = not_before_itself (row_of t)
head_first t (u ∷ us) = not_before_through (row_of t) (row_of (first_of t u)) (row_of (first_among (first_of t u) us)) (left t u (is_before (row_of u) (row_of t)) refl) (head_first (first_of t u) us)

pub first : (t : Trap) (ts : List Trap) (u : Trap) → IsOneOf u (t ∷ ts) → is_before (row_of u) (row_of (first_among t ts)) ≡ false
first t ts u (inl e) = rw e (head_first t ts)
first t [] u (inr none) = elim none [ ]
first t (v ∷ vs) u (inr (inl e)) =
    rw e (not_before_through (row_of v) (row_of (first_of t v)) (row_of (first_among (first_of t v) vs)) (right t v (is_before (row_of v) (row_of t)) refl) (head_first (first_of t v) vs))
first t (v ∷ vs) u (inr (inr m)) = first (first_of t v) vs u (inr m)

-- the choice is one of them
one_of_two : (t u : Trap) (b : Bool) → (cond b u t ≡ t) ⊎ (cond b u t ≡ u)
one_of_two t u true = inr refl
one_of_two t u false = inl refl

pub raised : (t : Trap) (ts : List Trap) → IsOneOf (first_among t ts) (t ∷ ts)
raised t [] = inl refl
raised t (u ∷ us) = among (one_of_two t u (is_before (row_of u) (row_of t))) (raised (first_of t u) us)
  where
    among : (first_of t u ≡ t) ⊎ (first_of t u ≡ u) → IsOneOf (first_among t (u ∷ us)) (first_of t u ∷ us) → IsOneOf (first_among t (u ∷ us)) (t ∷ (u ∷ us))
    among (inl e) (inl f) = inl (f ∙ e)
    among (inr e) (inl f) = inr (inl (f ∙ e))
    among e (inr m) = inr (inr m)
