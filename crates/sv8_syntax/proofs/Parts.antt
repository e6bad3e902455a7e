-- Parts between commas.
use Rattle.std.proofs.Common.{◌≡◌, ℕ, suc, ◌+◌, ◌<◌, ◌≤◌, Bool, true, false, cond, List, [], ◌∷◌, length, take, drop, refl, sym, ap, ◌∙◌, add-one, arith}
use Rattle.sv8_tokens.specs.declared.token.Token.{Token as Held}
use Rattle.sv8_tokens.specs.Token.{views, Token}
use Rattle.sv8_syntax.specs.Parts.{part_len}
use Rattle.sv8_syntax.specs.Reading.{is_comma, put_first, parts, parts_of}

pub part_len-le : (ts : List Token) → part_len ts ≤ length ts
unfolding part_len
part_len-le [] = omega arith
part_len-le (t ∷ ts) =
    let le = part_len-le ts in
    elim (is_comma t) as (λ v. cond v 0 (part_len ts + 1) ≤ suc (length ts)) [ true ↦ omega arith | false ↦ omega arith ]

-- parts, by the first comma
pub parts-last : (ts : List Token) → part_len ts ≡ length ts → parts ts ≡ take (part_len ts) ts ∷ []
unfolding part_len parts
parts-last [] e = refl
parts-last (t ∷ ts) e =
    let P : Bool → Type 0 = λ v. cond v 0 (part_len ts + 1) ≡ suc (length ts) → cond v ([] ∷ parts ts) (put_first t (parts ts)) ≡ take (cond v 0 (part_len ts + 1)) (t ∷ ts) ∷ [] in
    let all : (v : Bool) → P v = λ v. elim v as P [
      | true ↦ λ h. absurd (omega arith)
      | false ↦ λ h.
          let k : part_len ts ≡ length ts = omega arith in
          let rest = parts-last ts k in
          ap (λ (ps : List (List Token)). put_first t ps) rest ∙ ap (λ (n : ℕ). take n (t ∷ ts) ∷ []) (sym (add-one (part_len ts)))
    ] in
    all (is_comma t) e

pub parts-first : (ts : List Token) → part_len ts < length ts → parts ts ≡ take (part_len ts) ts ∷ parts (drop (part_len ts + 1) ts)
unfolding part_len parts
parts-first [] lt = absurd (omega arith)
parts-first (t ∷ ts) lt =
    let P : Bool → Type 0 = λ v. cond v 0 (part_len ts + 1) < suc (length ts) → cond v ([] ∷ parts ts) (put_first t (parts ts)) ≡ take (cond v 0 (part_len ts + 1)) (t ∷ ts) ∷ parts (drop (cond v 0 (part_len ts + 1) + 1) (t ∷ ts)) in
    let all : (v : Bool) → P v = λ v. elim v as P [
      | true ↦ λ h. refl
      | false ↦ λ h.
          let k : part_len ts < length ts = omega arith in
          let rest = parts-first ts k in
          ap (λ (ps : List (List Token)). put_first t ps) rest
          ∙ ap (λ (n : ℕ). take n (t ∷ ts) ∷ parts (drop (part_len ts + 1) ts)) (sym (add-one (part_len ts)))
          ∙ ap (λ (n : ℕ). take (part_len ts + 1) (t ∷ ts) ∷ parts (drop n (t ∷ ts))) (sym (add-one (part_len ts + 1)))
    ] in
    all (is_comma t) lt

-- at most one part more than there are tokens
put_first-few : (t : Token) (ps : List (List Token)) (n : ℕ) → length ps ≤ suc n → length (put_first t ps) ≤ suc (suc n)
put_first-few t [] n le = omega arith
put_first-few t (p ∷ ps) n le = omega arith

parts-few : (ts : List Token) → length (parts ts) ≤ suc (length ts)
unfolding parts
parts-few [] = omega arith
parts-few (t ∷ ts) =
    let le = parts-few ts in
    elim (is_comma t) as (λ v. length (cond v ([] ∷ parts ts) (put_first t (parts ts))) ≤ suc (suc (length ts))) [ true ↦ omega arith | false ↦ put_first-few t (parts ts) (length ts) le ]

pub parts_of-few : (ts : List Token) → length (parts_of ts) ≤ suc (length ts)
unfolding parts_of
parts_of-few [] = omega arith
parts_of-few (t ∷ ts) = parts-few (t ∷ ts)

pub parts_of_none : (ts : List Held) → length ts ≡ 0 → parts_of (views ts) ≡ []
unfolding parts_of
parts_of_none [] e = refl
parts_of_none (t ∷ ts) e = absurd (omega arith)

pub parts_of_some : (ts : List Held) → (length ts ≡ 0 → ⊥) → parts_of (views ts) ≡ parts (views ts)
unfolding parts_of
parts_of_some [] some = absurd (some refl)
parts_of_some (t ∷ ts) some = refl
