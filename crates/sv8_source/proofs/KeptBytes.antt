-- A line's bytes, kept.
use Rattle.std.proofs.Common.{◌≡◌, ◌∙◌, ℕ, zero, suc, ◌+◌, List, [], ◌∷◌, Some, Ok, true, subst, arith}
use Rattle.std.specs.List.{slice_get}
use Rattle.sv8_syntax.specs.Reading.{reading}
use Rattle.sv8_asm.specs.Code.{bytes}
use Rattle.sv8_asm.specs.Names.{Names}
use Rattle.sv8_asm.specs.Uses.{agree}
use Rattle.sv8_asm.proofs.Common.{agreeing_names_decide}
use Rattle.sv8_source.specs.Layout.{Place, valued}
use Rattle.sv8_source.specs.Text.{Assembly}
use Rattle.sv8_source.proofs.InPlace.{Coded, coded_of}

coded_at : (names : Names) (n : ℕ) (ps : List Place) (cs : List (List ℕ)) (i : ℕ) (p : Place) (b : List ℕ) → Coded names n ps cs → slice_get ps i ≡ Some p → slice_get cs i ≡ Some b → bytes p.stmt (n + i) p.at names ≡ Ok b
coded_at names n [] cs i p b c e f = absurd (cc)
coded_at names n (p0 ∷ ps) [] i p b c e f = absurd c
coded_at names n (p0 ∷ ps) (c0 ∷ cs) zero p b c e f =
    let x : p0 ≡ p = cc in
    let y : c0 ≡ b = cc in
    let first : bytes p.stmt n p.at names ≡ Ok b = rw (← x, ← y) c.0 in
    let k : n ≡ n + 0 = omega arith in
    subst (λ k. bytes p.stmt k p.at names ≡ Ok b) k first
coded_at names n (p0 ∷ ps) (c0 ∷ cs) (suc i) p b c e f =
    let k : (n + 1) + i ≡ n + suc i = omega arith in
    subst (λ k. bytes p.stmt k p.at names ≡ Ok b) k (coded_at names (n + 1) ps cs i p b c.1 e f)

-- a line with the same text and location, whose names stand for the same, has the same bytes
pub kept_bytes : (a : Assembly) (i number n : ℕ) (p q : Place) (b : List ℕ) (names : Names) → valued a.layout.symbols 1 a.layout.places [] ≡ Ok a.code → slice_get a.layout.places i ≡ Some p → slice_get a.code i ≡ Some b → n ≡ i + 1
    → p.at ≡ q.at → p.text ≡ q.text → reading p.text ≡ Ok p.stmt → reading q.text ≡ Ok q.stmt → agree q.stmt names number a.layout.symbols n ≡ true → bytes q.stmt number q.at names ≡ Ok b
kept_bytes a i number n p q b names h e f k at text r s g =
    let c = coded_of a.layout.symbols 1 a.layout.places [] a.code h in
    let code : a.code ≡ c.rest = c.joined in
    let coded : Coded a.layout.symbols 1 a.layout.places a.code = rw code c.coded in
    let same : p.stmt ≡ q.stmt = cc in
    let number_is : 1 + i ≡ n = omega arith in
    let old : bytes p.stmt (1 + i) p.at a.layout.symbols ≡ Ok b = coded_at a.layout.symbols 1 a.layout.places a.code i p b coded e f in
    (agreeing_names_decide q.stmt number n names a.layout.symbols g).1 q.at
    ∙ rw (← same, ← at, ← number_is) old
