-- Lists from their end.
use Rattle.std.proofs.Common.{◌≡◌, ◌∙◌, ℕ, suc, ◌+◌, ◌-◌, ◌<◌, ◌≤◌, List, [], ◌∷◌, ◌++◌, length, get_or, take, map, reverse, refl, sym, ap, append_assoc, arith}
use Rattle.std.proofs.lemmas.List.{reverse-append, map-append, take_more, take-map}
use Rattle.std.proofs.lemmas.Grind.{reverse_onto}

map_reverse : {A B : Type 0} (f : A → B) (xs : List A) → reverse (map f xs) ≡ map f (reverse xs)
map_reverse f [] = refl
map_reverse f (x ∷ xs) =
    reverse_onto (map f xs) (f x) [] ∙ ap (λ ys. ys ++ f x ∷ []) (map_reverse f xs) ∙ sym (map-append f (reverse xs) (x ∷ [])) ∙ ap (map f) (sym (reverse_onto xs x []))

-- one more from the end
pub end_more : {A : Type 0} (all now more xs : List A) (d : A) (left end : ℕ) → 0 < left → 0 < end → end ≤ length xs → more ≡ now ++ get_or xs (end - 1) d ∷ []
    → now ++ take left (reverse (take end xs)) ≡ all → more ++ take (left - 1) (reverse (take (end - 1) xs)) ≡ all
end_more all now more xs d left end some up within e f =
    let x = get_or xs (end - 1) d in
    let last : end - 1 + 1 ≡ end = omega (arith, up) in
    let one : suc (left - 1) ≡ left = omega (arith, some) in
    let split : take end xs ≡ take (end - 1) xs ++ x ∷ [] = ap (λ n. take n xs) (sym last) ∙ take_more xs (end - 1) d (omega (arith, up, within)) in
    let turned : reverse (take end xs) ≡ x ∷ reverse (take (end - 1) xs) = ap reverse split ∙ reverse-append (take (end - 1) xs) (x ∷ []) in
    let front : take left (reverse (take end xs)) ≡ x ∷ take (left - 1) (reverse (take (end - 1) xs)) =
    ap (λ n. take n (reverse (take end xs))) (sym one) ∙ ap (take (suc (left - 1))) turned in
    ap (λ ys. ys ++ take (left - 1) (reverse (take (end - 1) xs))) e ∙ append_assoc now (x ∷ []) (take (left - 1) (reverse (take (end - 1) xs)))
    ∙ ap (λ ys. now ++ ys) (sym front) ∙ f

-- those that were found, turned
pub turned_found : {A B : Type 0} (f : A → B) (xs : List A) (seen : List B) (most : ℕ) → seen ≡ [] ++ map f xs → take most (reverse seen) ≡ map f (take most (reverse xs))
turned_found f xs seen most e = ap (λ ys. take most (reverse ys)) e ∙ ap (take most) (map_reverse f xs) ∙ take-map f most (reverse xs)
