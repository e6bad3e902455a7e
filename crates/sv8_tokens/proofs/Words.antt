-- Bytes, numbers and quoted texts: what is spelled is read, and what is read is spelled.
use Rattle.std.proofs.Common.{◌≡◌, ℕ, suc, ◌+◌, ◌-◌, ◌*◌, ◌^◌, ◌<◌, ◌≤◌, Bool, true, false, cond, eqb, ltb, leb, List, [], ◌∷◌, ◌++◌, length, take, drop, Option, Some, None, ◌&&◌, ◌||◌, refl, sym, ap, subst, ◌∙◌, add-one, arith, ◌⊎◌, inl, inr}
use Rattle.std.specs.Prelude.{fold}
use Rattle.std.specs.List.{AllByRecursion, list_all}
use Rattle.std.proofs.lemmas.Bool.{eqb-true, eqb-false, ne_eqb, leb-true, ltb-true, lt-ltb}
use Rattle.std.proofs.lemmas.Bool.Decides.{nat_tests}
use Rattle.sv8_tokens.specs.declared.token.Mark.{Mark as Sign}
use Rattle.sv8_tokens.specs.declared.token.Mark.TheVariants as mark
use Rattle.sv8_tokens.specs.Spelling.{is_blank, is_hex_digit, digit_value, is_plain, span, behind_mark, behind_colon, AllPass, StartsWith, IsNumeral, numeral_zero, numeral_decimal, numeral_hexadecimal, IsQuotable, quotable_end, quotable_plain, quotable_escape, byte_of}
use Rattle.sv8_statements.specs.Names.{is_digit, is_reference}
use Rattle.sv8_statements.specs.Steps.{◌>>=◌}
use Rattle.sv8_tokens.specs.Lexing.{digit_of, number_from, numeral_of, mark_of, quote_at, label_of}
use Rattle.sv8_statements.proofs.Steps.{bind_some, some_is, test_true, some}

-- ---- tests

pub and_true : (a b : Bool) → (a && b) ≡ true → (a ≡ true) × (b ≡ true)
and_true true b e = (refl, e)
and_true false b e = absurd cc

pub or_false : (a b : Bool) → (a || b) ≡ false → (a ≡ false) × (b ≡ false)
or_false true b e = absurd cc
or_false false b e = (refl, e)

-- a byte that passes is not one that does not
pub other_byte : (p : ℕ → Bool) (c k : ℕ) → p c ≡ true → p k ≡ false → eqb c k ≡ false
other_byte p c k passes fails = ne_eqb c k (λ e. let f : p c ≡ p k = ap p e in absurd cc)

-- a text whose bytes all pass, by the test and by the property
pub passes : (p : ℕ → Bool) (cs : List ℕ) → list_all p cs ≡ true → AllPass p cs
passes p [] h = tt
passes p (c ∷ cs) h = let both = and_true (p c) (list_all p cs) h in (both.0, passes p cs both.1)

pub passed : (p : ℕ → Bool) (cs : List ℕ) → AllPass p cs → list_all p cs ≡ true
passed p [] h = refl
passed p (c ∷ cs) h = rw (h.0, passed p cs h.1) refl

-- ---- a front that passes

abbrev chosen : Bool → ℕ → List ℕ → List ℕ × List ℕ → List ℕ × List ℕ
chosen v c cs s = cond v (c ∷ s.0, s.1) ([], c ∷ cs)

abbrev pair : List ℕ → List ℕ → List ℕ × List ℕ
pair a b = (a, b)

pub span-whole : (p : ℕ → Bool) (xs : List ℕ) → (span p xs).0 ++ (span p xs).1 ≡ xs
span-whole p [] = refl
span-whole p (c ∷ cs) = elim (p c) as (λ v. (chosen v c cs (span p cs)).0 ++ (chosen v c cs (span p cs)).1 ≡ c ∷ cs) [
  | true ↦ ap (λ (x : List ℕ). c ∷ x) (span-whole p cs)
  | false ↦ refl
]

pub span-passes : (p : ℕ → Bool) (xs : List ℕ) → AllPass p (span p xs).0
span-passes p [] = tt
span-passes p (c ∷ cs) =
    let P : Bool → Type 0 = λ v. p c ≡ v → AllPass p (chosen v c cs (span p cs)).0 in
    let all : (v : Bool) → P v = λ v. elim v as P [ true ↦ λ e. (e, span-passes p cs) | false ↦ λ e. tt ] in
    all (p c) refl

pub span-stops : (p : ℕ → Bool) (xs : List ℕ) → StartsWith p (span p xs).1 → ⊥
span-stops p [] h = h
span-stops p (c ∷ cs) h =
    let P : Bool → Type 0 = λ v. p c ≡ v → StartsWith p (chosen v c cs (span p cs)).1 → ⊥ in
    let all : (v : Bool) → P v = λ v. elim v as P [ true ↦ λ e k. span-stops p cs k | false ↦ λ e k. absurd cc ] in
    all (p c) refl h

pub span-of : (p : ℕ → Bool) (w rest : List ℕ) → AllPass p w → (StartsWith p rest → ⊥) → span p (w ++ rest) ≡ (w, rest)
span-of p [] [] h stop = refl
span-of p [] (c ∷ cs) h stop =
    let P : Bool → Type 0 = λ v. p c ≡ v → chosen v c cs (span p cs) ≡ pair [] (c ∷ cs) in
    let all : (v : Bool) → P v = λ v. elim v as P [ true ↦ λ e. absurd (stop e) | false ↦ λ e. refl ] in
    all (p c) refl
span-of p (c ∷ w) rest h stop = rw (h.0, span-of p w rest h.1 stop) refl

-- ---- digits

pub decimal_digit : (c : ℕ) → is_digit c ≡ true → digit_of 10 c ≡ Some (digit_value c)
decimal_digit c d =
    let both = and_true (leb 48 c) (leb c 57) d in
    let above = leb-true 48 c both.0 in
    let below = leb-true c 57 both.1 in
    let small : ltb (c - 48) 10 ≡ true = lt-ltb (c - 48) 10 (omega arith) in
    rw (both.0, both.1, small) refl

pub hex_digit_below : (c : ℕ) → is_hex_digit c ≡ true → digit_value c < 16
hex_digit_below c d = grind (arith, nat_tests)

pub hex_digit : (c : ℕ) → is_hex_digit c ≡ true → digit_of 16 c ≡ Some (digit_value c)
hex_digit c d = rw (d, lt-ltb (digit_value c) 16 (hex_digit_below c d)) refl

pub digit-read : (base c d : ℕ) → digit_of base c ≡ Some d → (is_hex_digit c ≡ true) × (digit_value c < base) × (digit_value c ≡ d)
digit-read base c d h =
    let a = test_true (is_hex_digit c && ltb (digit_value c) base) (Some (digit_value c)) d h in
    let b = and_true (is_hex_digit c) (ltb (digit_value c) base) a.0 in
    (b.0, ltb-true (digit_value c) base b.1, some_is (digit_value c) d a.1)

pub hex_below_ten : (c : ℕ) → is_hex_digit c ≡ true → digit_value c < 10 → is_digit c ≡ true
hex_below_ten c d lt = grind (arith, nat_tests)

-- ---- numbers

abbrev from : ℕ → ℕ → List ℕ → ℕ
from base n cs = fold (λ n c. base * n + digit_value c) n cs

abbrev Grows : ℕ → Type 0
Grows base = (m : ℕ) → m ≤ base * m

from-grows : (base : ℕ) → Grows base → (n : ℕ) (cs : List ℕ) → n ≤ from base n cs
from-grows base g n [] = omega arith
from-grows base g n (c ∷ cs) =
    let step = g n in
    let rest = from-grows base g (base * n + digit_value c) cs in
    omega arith

abbrev AreDigits : ℕ → List ℕ → Type 0
AreDigits base cs = AllByRecursion (λ c. digit_of base c ≡ Some (digit_value c)) cs

number_from-again : (base : ℕ) → Grows base → (n : ℕ) (cs : List ℕ) → AreDigits base cs → from base n cs < 2 ^ 32 → number_from base n cs ≡ Some (from base n cs)
unfolding number_from
number_from-again base g n [] d lt = refl
number_from-again base g n (c ∷ cs) d lt =
    let rest = from-grows base g (base * n + digit_value c) cs in
    let small : ltb (base * n + digit_value c) (2 ^ 32) ≡ true = lt-ltb (base * n + digit_value c) (2 ^ 32) (omega arith) in
    let tail = number_from-again base g (base * n + digit_value c) cs d.1 lt in
    rw (d.0, small) tail

-- what the digits of a number that was read are
pub record IsRead (base n : ℕ) (cs : List ℕ) (m : ℕ) : Type 0 where
  pub digits : AllByRecursion (λ c. (is_hex_digit c ≡ true) × (digit_value c < base)) cs
  pub value : from base n cs ≡ m
  pub fits : n < 2 ^ 32 → m < 2 ^ 32

number_from-read : (base n : ℕ) (cs : List ℕ) (m : ℕ) → number_from base n cs ≡ Some m → IsRead base n cs m
unfolding number_from
number_from-read base n [] m h =
    let e = some_is n m h in
    record { digits = tt; value = e; fits = λ lt. omega arith }
number_from-read base n (c ∷ cs) m h =
    let x = bind_some (digit_of base c) (λ d. cond (ltb (base * n + d) (2 ^ 32)) (number_from base (base * n + d) cs) None) m h in
    let y = test_true (ltb (base * n + x.0) (2 ^ 32)) (number_from base (base * n + x.0) cs) m x.2 in
    let z = number_from-read base (base * n + x.0) cs m y.1 in
    let d = digit-read base c x.0 x.1 in
    let same : base * n + x.0 ≡ base * n + digit_value c = ap (λ (v : ℕ). base * n + v) (sym d.2) in
    record { digits = ((d.0, d.1), z.digits); value = ap (λ (v : ℕ). from base v cs) (sym same) ∙ z.value; fits = λ lt. z.fits (ltb-true (base * n + x.0) (2 ^ 32) y.0) }

grows_10 : Grows 10
grows_10 m = omega arith

grows_16 : Grows 16
grows_16 m = omega arith

are_decimal : (cs : List ℕ) → AllPass is_digit cs → AreDigits 10 cs
are_decimal [] h = tt
are_decimal (c ∷ cs) h = (decimal_digit c h.0, are_decimal cs h.1)

are_hexadecimal : (cs : List ℕ) → AllPass is_hex_digit cs → AreDigits 16 cs
are_hexadecimal [] h = tt
are_hexadecimal (c ∷ cs) h = (hex_digit c h.0, are_hexadecimal cs h.1)

decimal_all : (cs : List ℕ) → AllByRecursion (λ c. (is_hex_digit c ≡ true) × (digit_value c < 10)) cs → AllPass is_digit cs
decimal_all [] h = tt
decimal_all (c ∷ cs) h = (hex_below_ten c h.0.0 h.0.1, decimal_all cs h.1)

hexadecimal_all : (cs : List ℕ) → AllByRecursion (λ c. (is_hex_digit c ≡ true) × (digit_value c < 16)) cs → AllPass is_hex_digit cs
hexadecimal_all [] h = tt
hexadecimal_all (c ∷ cs) h = (h.0.0, hexadecimal_all cs h.1)

not_zero : (c : ℕ) (cs : List ℕ) → eqb c 48 ≡ false → numeral_of (c ∷ cs) ≡ number_from 10 0 (c ∷ cs)
unfolding numeral_of
not_zero c [] e = rw e refl
not_zero c (x ∷ []) e = rw e refl
not_zero c (x ∷ d ∷ ds) e = rw e refl

pub numeral-again : (text : List ℕ) (n : ℕ) → IsNumeral text n → n < 2 ^ 32 → numeral_of text ≡ Some n
unfolding numeral_of
numeral-again _ _ numeral_zero lt = refl
numeral-again _ _ (numeral_decimal c cs d z ds) lt = not_zero c cs (ne_eqb c 48 z) ∙ number_from-again 10 grows_10 0 (c ∷ cs) (are_decimal (c ∷ cs) (d, ds)) lt
numeral-again _ _ (numeral_hexadecimal c cs ds) lt = number_from-again 16 grows_16 0 (c ∷ cs) (are_hexadecimal (c ∷ cs) ds) lt

abbrev Numeral : List ℕ → ℕ → Type 0
Numeral text n = IsNumeral text n × (n < 2 ^ 32)

decimal-read : (c : ℕ) (cs : List ℕ) (n : ℕ) → eqb c 48 ≡ false → number_from 10 0 (c ∷ cs) ≡ Some n → Numeral (c ∷ cs) n
decimal-read c cs n z h =
    let r = number_from-read 10 0 (c ∷ cs) n h in
    let d = decimal_all (c ∷ cs) r.digits in
    (subst (IsNumeral (c ∷ cs)) r.value (numeral_decimal c cs d.0 (eqb-false c 48 z) d.1), r.fits (omega arith))

zero-read : (n : ℕ) → some 0 ≡ Some n → Numeral (48 ∷ []) n
zero-read n h = subst (λ (m : ℕ). Numeral (48 ∷ []) m) (some_is 0 n h) (numeral_zero, omega arith)

hexadecimal-read : (x d : ℕ) (ds : List ℕ) (n : ℕ) → cond (eqb x 120) (number_from 16 0 (d ∷ ds)) None ≡ Some n → Numeral (48 ∷ x ∷ d ∷ ds) n
hexadecimal-read x d ds n h =
    let t = test_true (eqb x 120) (number_from 16 0 (d ∷ ds)) n h in
    let r = number_from-read 16 0 (d ∷ ds) n t.1 in
    let made : IsNumeral (48 ∷ 120 ∷ d ∷ ds) n = subst (IsNumeral (48 ∷ 120 ∷ d ∷ ds)) r.value (numeral_hexadecimal d ds (hexadecimal_all (d ∷ ds) r.digits)) in
    (subst (λ (y : ℕ). IsNumeral (48 ∷ y ∷ d ∷ ds) n) (sym (eqb-true x 120 t.0)) made, r.fits (omega arith))

-- the two ways of a test
either : {A : Type 0} (b : Bool) (x y : Option A) (z : A) → cond b x y ≡ Some z → ((b ≡ true) × (x ≡ Some z)) ⊎ ((b ≡ false) × (y ≡ Some z))
either true x y z h = inl (refl, h)
either false x y z h = inr (refl, h)

at_48 : (c : ℕ) (cs : List ℕ) (n : ℕ) → eqb c 48 ≡ true → Numeral (48 ∷ cs) n → Numeral (c ∷ cs) n
at_48 c cs n e p = subst (λ (y : ℕ). Numeral (y ∷ cs) n) (sym (eqb-true c 48 e)) p

pub numeral-read : (text : List ℕ) (n : ℕ) → numeral_of text ≡ Some n → Numeral text n
unfolding numeral_of
numeral-read [] n h = absurd cc
numeral-read (c ∷ []) n h = elim (either (eqb c 48) (Some 0) (number_from 10 0 (c ∷ [])) n h) [ inl p ↦ at_48 c [] n p.0 (zero-read n p.1) | inr p ↦ decimal-read c [] n p.0 p.1 ]
numeral-read (c ∷ x ∷ []) n h = elim (either (eqb c 48) None (number_from 10 0 (c ∷ x ∷ [])) n h) [ inl p ↦ let q = p.1 in absurd cc | inr p ↦ decimal-read c (x ∷ []) n p.0 p.1 ]
numeral-read (c ∷ x ∷ d ∷ ds) n h = elim (either (eqb c 48) (cond (eqb x 120) (number_from 16 0 (d ∷ ds)) None) (number_from 10 0 (c ∷ x ∷ d ∷ ds)) n h) [
  | inl p ↦ at_48 c (x ∷ d ∷ ds) n p.0 (hexadecimal-read x d ds n p.1)
  | inr p ↦ decimal-read c (x ∷ d ∷ ds) n p.0 p.1
]

-- ---- references and labels

pub reference_tests : (text : List ℕ) → is_reference text ≡ true → (d : ℕ) × (side : ℕ) × (text ≡ d ∷ side ∷ []) × (is_digit d ≡ true) × ((eqb side 102 || eqb side 98) ≡ true)
reference_tests (d ∷ side ∷ []) e = let both = and_true (is_digit d) (eqb side 102 || eqb side 98) e in (d, side, refl, both.0, both.1)
reference_tests _ e = absurd cc

digit_no_side : (d c : ℕ) → is_digit c ≡ true → is_reference (d ∷ c ∷ []) ≡ false
digit_no_side d c h = rw (other_byte is_digit c 102 h refl, other_byte is_digit c 98 h refl) (elim (is_digit d) as (λ v. (v && false) ≡ false) [ true ↦ refl | false ↦ refl ])

decimal_no_reference : (c : ℕ) (cs : List ℕ) → AllPass is_digit cs → is_reference (c ∷ cs) ≡ false
decimal_no_reference c [] ds = refl
decimal_no_reference c (x ∷ []) ds = digit_no_side c x ds.0
decimal_no_reference c (x ∷ y ∷ cs) ds = refl

-- a number is no reference
pub numeral-no_reference : (text : List ℕ) (n : ℕ) → IsNumeral text n → is_reference text ≡ false
numeral-no_reference _ _ numeral_zero = refl
numeral-no_reference _ _ (numeral_decimal c cs d z ds) = decimal_no_reference c cs ds
numeral-no_reference _ _ (numeral_hexadecimal c cs ds) = refl

pub label-read : (word : List ℕ) (n : ℕ) → label_of word ≡ Some n → (d : ℕ) × (word ≡ d ∷ []) × (is_digit d ≡ true) × (d - 48 ≡ n)
unfolding label_of
label-read (d ∷ []) n h = let t = test_true (is_digit d) (Some (d - 48)) n h in (d, refl, t.0, some_is (d - 48) n t.1)
label-read _ n h = absurd cc

pub label-again : (d : ℕ) → is_digit d ≡ true → label_of (d ∷ []) ≡ Some (d - 48)
unfolding label_of
label-again d h = rw h refl

behind_mark-read : (text behind : List ℕ) → behind_mark text ≡ Some behind → text ≡ 58 ∷ behind
behind_mark-read [] behind h = absurd cc
behind_mark-read (c ∷ cs) behind h =
    let t = test_true (eqb c 58) (Some cs) behind h in
    ap (λ (y : ℕ). y ∷ cs) (eqb-true c 58 t.0) ∙ ap (λ (y : List ℕ). 58 ∷ y) (some_is cs behind t.1)

pub colon-read : (text behind : List ℕ) → behind_colon text ≡ Some behind → (gap : List ℕ) × AllPass is_blank gap × (text ≡ gap ++ 58 ∷ behind)
colon-read text behind h =
    let s = span is_blank text in
    (s.0, span-passes is_blank text, sym (span-whole is_blank text) ∙ ap (λ (y : List ℕ). s.0 ++ y) (behind_mark-read s.1 behind h))

colon_stop : (rest : List ℕ) → StartsWith is_blank (58 ∷ rest) → ⊥
colon_stop rest h = cc

pub colon-again : (gap rest : List ℕ) → AllPass is_blank gap → behind_colon (gap ++ 58 ∷ rest) ≡ Some rest
colon-again gap rest pass = rw (span-of is_blank gap (58 ∷ rest) pass (colon_stop rest)) refl

-- ---- marks

mark_here : (c k : ℕ) (m n : Sign) → byte_of n ≡ k → (eqb c k ≡ true) × (some n ≡ Some m) → c ≡ byte_of m
mark_here c k m n e p = eqb-true c k p.0 ∙ sym e ∙ ap byte_of (some_is n m p.1)

pub mark-read : (c : ℕ) (m : Sign) → mark_of c ≡ Some m → c ≡ byte_of m
unfolding mark_of
mark-read c m h =
    elim (either (eqb c 44) _ _ m h) [
      | inl p ↦ mark_here c 44 m mark.Comma refl p
      | inr h ↦
          elim (either (eqb c 58) _ _ m h.1) [
            | inl p ↦ mark_here c 58 m mark.Colon refl p
            | inr h ↦
                elim (either (eqb c 43) _ _ m h.1) [
                  | inl p ↦ mark_here c 43 m mark.Plus refl p
                  | inr h ↦
                      elim (either (eqb c 45) _ _ m h.1) [
                        | inl p ↦ mark_here c 45 m mark.Minus refl p
                        | inr h ↦
                            elim (either (eqb c 91) _ _ m h.1) [
                              | inl p ↦ mark_here c 91 m mark.OpenBracket refl p
                              | inr h ↦
                                  elim (either (eqb c 93) _ _ m h.1) [
                                    | inl p ↦ mark_here c 93 m mark.CloseBracket refl p
                                    | inr h ↦
                                        elim (either (eqb c 40) _ _ m h.1) [
                                          | inl p ↦ mark_here c 40 m mark.OpenParen refl p
                                          | inr h ↦
                                              elim (either (eqb c 41) _ _ m h.1) [ inl p ↦ mark_here c 41 m mark.CloseParen refl p | inr h ↦ let q = h.1 in absurd cc ]
                                        ]
                                  ]
                            ]
                      ]
                ]
          ]
    ]

-- ---- quoted texts

plain_tests : (c : ℕ) → is_plain c ≡ true → (eqb c 34 ≡ false) × (eqb c 92 ≡ false)
plain_tests c e = elim (eqb c 34) as (λ v. cond v false (cond (eqb c 92) false true) ≡ true → (v ≡ false) × (eqb c 92 ≡ false)) [
  | true ↦ λ h. absurd cc
  | false ↦ λ h. (refl, elim (eqb c 92) as (λ v. cond v false true ≡ true → v ≡ false) [ true ↦ λ k. absurd cc | false ↦ λ k. refl ] h)
] e

pub quote-again : (text rest : List ℕ) → IsQuotable text → quote_at false (text ++ 34 ∷ rest) ≡ Some (length text)
unfolding quote_at
quote-again _ rest quotable_end = refl
quote-again _ rest (quotable_plain c cs p q) =
    let t = plain_tests c p in
    rw (t.0, t.1, quote-again cs rest q) (ap (λ (n : ℕ). some n) (add-one (length cs)))
quote-again _ rest (quotable_escape e cs q) = rw (quote-again cs rest q) (let s : length cs + 1 + 1 ≡ suc (suc (length cs)) = omega arith in ap (λ (n : ℕ). some n) s)

-- a text behind a backslash where the test is true, up to its quote
pub record QuotedTo (escaped : Bool) (text : List ℕ) (n : ℕ) : Type 0 where
  pub quotable : IsQuotable (cond escaped (92 ∷ take n text) (take n text))
  pub parts : text ≡ take n text ++ 34 ∷ drop (n + 1) text

quoted_more : (c : ℕ) (cs : List ℕ) (n : ℕ) → cs ≡ take n cs ++ 34 ∷ drop (n + 1) cs → c ∷ cs ≡ take (n + 1) (c ∷ cs) ++ 34 ∷ drop (n + 1 + 1) (c ∷ cs)
quoted_more c cs n e =
    let s : n + 1 ≡ suc n = add-one n in
    let s2 : n + 1 + 1 ≡ suc (n + 1) = add-one (n + 1) in
    ap (λ (x : List ℕ). c ∷ x) e ∙ ap (λ (k : ℕ). take k (c ∷ cs) ++ 34 ∷ drop (n + 1) cs) (sym s) ∙ ap (λ (k : ℕ). take (n + 1) (c ∷ cs) ++ 34 ∷ drop k (c ∷ cs)) (sym s2)

taken : (c : ℕ) (cs : List ℕ) (n : ℕ) → c ∷ take n cs ≡ take (n + 1) (c ∷ cs)
taken c cs n = ap (λ (k : ℕ). take k (c ∷ cs)) (sym (add-one n))

pub quote-read : (escaped : Bool) (text : List ℕ) (n : ℕ) → quote_at escaped text ≡ Some n → QuotedTo escaped text n
unfolding quote_at
quote-read true [] n h = absurd cc
quote-read false [] n h = absurd cc
quote-read true (c ∷ cs) n h =
    let x = bind_some (quote_at false cs) (λ k. Some (k + 1)) n h in
    let q = quote-read false cs x.0 x.1 in
    let made : QuotedTo true (c ∷ cs) (x.0 + 1) = record { quotable = subst (λ (t : List ℕ). IsQuotable (92 ∷ t)) (taken c cs x.0) (quotable_escape c (take x.0 cs) q.quotable); parts = quoted_more c cs x.0 q.parts } in
    subst (QuotedTo true (c ∷ cs)) (some_is (x.0 + 1) n x.2) made
quote-read false (c ∷ cs) n h =
    elim (either (eqb c 34) (Some 0) (quote_at (eqb c 92) cs >>= λ k. Some (k + 1)) n h) [
      | inl p ↦
          let made : QuotedTo false (34 ∷ cs) 0 = record { quotable = quotable_end; parts = refl } in
          subst (λ (y : ℕ). QuotedTo false (y ∷ cs) n) (sym (eqb-true c 34 p.0)) (subst (QuotedTo false (34 ∷ cs)) (some_is 0 n p.1) made)
      | inr p ↦
          let x = bind_some (quote_at (eqb c 92) cs) (λ k. Some (k + 1)) n p.1 in
          let q = quote-read (eqb c 92) cs x.0 x.1 in
          let P : Bool → Type 0 = λ v. eqb c 92 ≡ v → QuotedTo v cs x.0 → QuotedTo false (c ∷ cs) (x.0 + 1) in
          let all : (v : Bool) → P v = λ v. elim v as P [
            | true ↦ λ e r. record { quotable = subst IsQuotable (taken c cs x.0) (subst (λ (y : ℕ). IsQuotable (y ∷ take x.0 cs)) (sym (eqb-true c 92 e)) r.quotable); parts = quoted_more c cs x.0 r.parts }
            | false ↦ λ e r. record { quotable = subst IsQuotable (taken c cs x.0) (quotable_plain c (take x.0 cs) (rw (p.0, e) refl) r.quotable); parts = quoted_more c cs x.0 r.parts }
          ] in
          subst (QuotedTo false (c ∷ cs)) (some_is (x.0 + 1) n x.2) (all (eqb c 92) refl q)
    ]
