-- One step of the loop that cuts at commas and reads operands.
use Rattle.std.proofs.Common.{◌≡◌, ℕ, zero, suc, ◌+◌, ◌-◌, ◌<◌, ◌≤◌, List, [], ◌∷◌, ◌++◌, length, take, drop, Option, Some, None, refl, sym, ap, ◌∙◌, append_assoc, arith, Bor, length-drop, length-append, add-one}
use Rattle.std.proofs.Math.Seq.{take-length}
use Rattle.std.proofs.lemmas.List.{map_push, take-map, drop-map, append-nil}
use Rattle.sv8_tokens.specs.declared.token.Token.{Token as Held}
use Rattle.sv8_tokens.specs.Token.{Token, views, view}
use Rattle.sv8_statements.specs.declared.operand.Operand.{Operand as OperandRef}
use Rattle.sv8_statements.specs.Operand.{Operand, operand_view, operand_views}
use Rattle.sv8_statements.specs.Steps.{◌>>=◌}
use Rattle.sv8_syntax.specs.Parts.{part_len}
use Rattle.sv8_syntax.specs.Reading.{parts, parts_of, operands_of}
use Rattle.sv8_tokens.specs.Reading.{operand_of}
use Rattle.sv8_statements.proofs.Steps.{some}
use Rattle.sv8_syntax.proofs.Parts.{parts-last, parts-first, part_len-le, parts_of-few}

-- how much is left to cut
abbrev pub left : Option (Bor (List Held)) → ℕ
left None = 0
left (Some ts) = suc (length ts.now)

drop-suc : (n : ℕ) (ts : List Held) → drop 1 (drop n ts) ≡ drop (suc n) ts
drop-suc zero [] = refl
drop-suc (suc n) [] = refl
drop-suc zero (t ∷ ts) = refl
drop-suc (suc n) (t ∷ ts) = drop-suc n ts

views-length : (ts : List Held) → length (views ts) ≡ length ts
views-length [] = refl
views-length (t ∷ ts) = ap suc (views-length ts)

drop-one : (n : ℕ) (ts : List Held) → drop 1 (drop n ts) ≡ drop (n + 1) ts
drop-one n ts = rw add-one (drop-suc n ts)

behind_is : (after : List Held) → 1 ≤ length after → take (length after - 1) (drop 1 after) ≡ drop 1 after
behind_is [] le = absurd (omega arith)
behind_is (x ∷ after) le = let e : suc (length after) - 1 ≡ length after = omega arith in ap (λ (n : ℕ). take n after) e ∙ take-length after

pub cut_last : (ts part after : List Held) → part ≡ take (part_len (views ts)) ts → after ≡ drop (part_len (views ts)) ts → length after < 1 → parts (views ts) ≡ views part ∷ []
cut_last ts part after p a few =
    let n = part_len (views ts) in
    let len = views-length ts in
    let most = part_len-le (views ts) in
    let same : length after ≡ length (drop n ts) = ap length a in
    let all : part_len (views ts) ≡ length (views ts) = omega (arith, length-drop n ts) in
    parts-last (views ts) all ∙ ap (λ (x : List Token). x ∷ []) (take-map view n ts ∙ ap (λ (x : List Held). views x) (sym p))

pub cut_first : (ts part after : List Held) → part ≡ take (part_len (views ts)) ts → after ≡ drop (part_len (views ts)) ts → 1 ≤ length after → parts (views ts) ≡ views part ∷ parts (views (take (length after - 1) (drop 1 after)))
cut_first ts part after p a some =
    let n = part_len (views ts) in
    let len = views-length ts in
    let same : length after ≡ length (drop n ts) = ap length a in
    let fits : part_len (views ts) < length (views ts) = omega (arith, length-drop n ts) in
    let next : drop (n + 1) ts ≡ take (length after - 1) (drop 1 after) = sym (behind_is after some ∙ ap (λ (x : List Held). drop 1 x) a ∙ drop-one n ts) in
    parts-first (views ts) fits ∙ ap (λ (y : List Token). y ∷ parts (drop (n + 1) (views ts))) (take-map view n ts ∙ ap (λ (x : List Held). views x) (sym p))
    ∙ ap (λ (y : List Token). views part ∷ parts y) (drop-map view (n + 1) ts ∙ ap (λ (x : List Held). views x) next)

-- ---- the operands so far, and those of the rest

abbrev pub behind : List Operand → Option (List Operand) → Option (List Operand)
behind front o = o >>= λ os. Some (front ++ os)

behind_more : (o : Option (List Operand)) (front : List Operand) (next : Operand) → behind (front ++ next ∷ []) o ≡ behind front (o >>= λ os. Some (next ∷ os))
behind_more None front next = refl
behind_more (Some os) front next = ap (λ (x : List Operand). some x) (append_assoc front (next ∷ []) os)

pub read_none : (ts : List Held) (out : List OperandRef) → length ts ≡ 0 → out ≡ [] → operands_of (parts_of (views ts)) ≡ Some (operand_views out)
unfolding parts_of operands_of
read_none [] out e empty = ap (λ (x : List OperandRef). some (operand_views x)) (sym empty)
read_none (t ∷ ts) out e empty = absurd (omega arith)

pub read_more : (out new : List OperandRef) (next : OperandRef) (p : List Token) (ps rest : List (List Token)) (whole : Option (List Operand)) → new ≡ out ++ next ∷ [] → rest ≡ p ∷ ps → operand_of p ≡ Some (operand_view next)
    → behind (operand_views out) (operands_of rest) ≡ whole → behind (operand_views new) (operands_of ps) ≡ whole
unfolding operands_of
read_more out new next p ps rest whole new_is cut read so_far =
    let grown : operand_views new ≡ operand_views out ++ operand_view next ∷ [] = ap (λ (x : List OperandRef). operand_views x) new_is ∙ map_push operand_view out next in
    let step : behind (operand_views out) (operands_of (p ∷ ps)) ≡ behind (operand_views out) (operands_of ps >>= λ os. Some (operand_view next ∷ os)) = rw read refl in
    ap (λ (x : List Operand). behind x (operands_of ps)) grown ∙ behind_more (operands_of ps) (operand_views out) (operand_view next) ∙ sym step
    ∙ ap (λ (x : List (List Token)). behind (operand_views out) (operands_of x)) (sym cut) ∙ so_far

pub count_more : (out new : List OperandRef) (next : OperandRef) (p : List Token) (ps rest : List (List Token)) (n : ℕ) → new ≡ out ++ next ∷ [] → rest ≡ p ∷ ps → length out + length rest ≡ n → length new + length ps ≡ n
count_more out new next p ps rest n new_is cut so_far =
    let grown : length new ≡ length (out ++ next ∷ []) = ap length new_is in
    let cut_length : length rest ≡ suc (length ps) = ap length cut in
    omega (arith, length-append out (next ∷ []))

pub read_end : (out : List OperandRef) (ps : List (List Token)) (whole : Option (List Operand)) → ps ≡ [] → behind (operand_views out) (operands_of ps) ≡ whole → whole ≡ Some (operand_views out)
unfolding operands_of
read_end out [] whole e so_far = sym so_far ∙ ap (λ (x : List Operand). some x) (append-nil (operand_views out))
read_end out (p ∷ ps) whole e so_far = absurd cc

pub read_fault : (out : List Operand) (p : List Token) (ps rest : List (List Token)) (whole : Option (List Operand)) → rest ≡ p ∷ ps → operand_of p ≡ None → behind out (operands_of rest) ≡ whole → whole ≡ None
unfolding operands_of
read_fault out p ps rest whole cut read so_far =
    let step : behind out (operands_of (p ∷ ps)) ≡ None = rw read refl in
    sym so_far ∙ ap (λ (x : List (List Token)). behind out (operands_of x)) cut ∙ step

pub parts-few : (ts : List Held) → length (parts_of (views ts)) ≤ length ts + 1
parts-few ts = let most = parts_of-few (views ts) in omega (arith, views-length ts)
