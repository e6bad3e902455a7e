-- How the tokens of a line are spelled.
use Rattle.std.specs.Prelude.{◌≡◌, ◌≢◌, ℕ, ◌+◌, ◌-◌, ◌*◌, ◌^◌, ◌<◌, List, [], ◌∷◌, ◌++◌, Bool, true, false, ◌==◌, ◌&&◌, ◌||◌, nat_le, if◌then◌else◌, Option, Some, None, fold}
use Rattle.std.specs.List.{AllByRecursion}
use Rattle.sv8_statements.specs.Names.{is_digit, is_reference}
use Rattle.sv8_tokens.specs.declared.token.Mark.{Mark as Sign}
use Rattle.sv8_tokens.specs.declared.token.Mark.TheVariants as mark
use Rattle.sv8_tokens.specs.declared.token.Percent.{Percent as Named}
use Rattle.sv8_tokens.specs.Token.{Token, Word, Number, Percent, Mark, Quoted, Local}
use Rattle.sv8_statements.specs.Table.{look_up}
use Rattle.sv8_tokens.specs.Percents.{percents}

abbrev pub is_blank : ℕ → Bool
is_blank c = c == 32 || c == 9

abbrev pub is_letter : ℕ → Bool
is_letter c = (nat_le 65 c && nat_le c 90) || (nat_le 97 c && nat_le c 122)

-- a letter, a digit, an underscore, a dot or a dollar sign
abbrev pub is_name_byte : ℕ → Bool
is_name_byte c = is_letter c || is_digit c || c == 95 || c == 46 || c == 36

-- every byte passes
abbrev pub AllPass : (ℕ → Bool) → List ℕ → Type 0
AllPass p text = AllByRecursion (λ c. p c ≡ true) text

abbrev pub StartsWith : (ℕ → Bool) → List ℕ → Type 0
StartsWith p [] = ⊥
StartsWith p (c ∷ text) = p c ≡ true

-- the front that passes, and what follows it
abbrev pub span : (ℕ → Bool) → List ℕ → List ℕ × List ℕ
span p [] = ([], [])
span p (c ∷ cs) = if p c then (c ∷ (span p cs).0, (span p cs).1) else ([], c ∷ cs)

-- ---- numbers

abbrev pub is_hex_digit : ℕ → Bool
is_hex_digit c = is_digit c || (nat_le 97 c && nat_le c 102) || (nat_le 65 c && nat_le c 70)

abbrev pub digit_value : ℕ → ℕ
digit_value c = if nat_le c 57 then c - 48 else (if nat_le c 70 then c - 55 else c - 87)

abbrev pub value_in : ℕ → List ℕ → ℕ
value_in base digits = fold (λ n c. base * n + digit_value c) 0 digits

-- 0, or decimal digits of which the first isn't 0, or 0x and hexadecimal digits
pub data IsNumeral : List ℕ → ℕ → Type 0 where
  numeral_zero : IsNumeral (48 ∷ []) 0
  numeral_decimal : (c : ℕ) (cs : List ℕ) → is_digit c ≡ true → c ≢ 48 → AllPass is_digit cs → IsNumeral (c ∷ cs) (value_in 10 (c ∷ cs))
  numeral_hexadecimal : (c : ℕ) (cs : List ℕ) → AllPass is_hex_digit (c ∷ cs) → IsNumeral (48 ∷ 120 ∷ c ∷ cs) (value_in 16 (c ∷ cs))

-- ---- texts between quotes

abbrev pub is_plain : ℕ → Bool
is_plain c = if c == 34 then false else (if c == 92 then false else true)

-- no quote stands between the quotes, but for one behind a backslash
pub data IsQuotable : List ℕ → Type 0 where
  quotable_end : IsQuotable []
  quotable_plain : (c : ℕ) (cs : List ℕ) → is_plain c ≡ true → IsQuotable cs → IsQuotable (c ∷ cs)
  quotable_escape : (e : ℕ) (cs : List ℕ) → IsQuotable cs → IsQuotable (92 ∷ e ∷ cs)

-- ---- local labels

-- what stands behind a colon
abbrev pub behind_mark : List ℕ → Option (List ℕ)
behind_mark [] = None
behind_mark (c ∷ cs) = if c == 58 then Some cs else None

-- the same, blanks before it aside
abbrev pub behind_colon : List ℕ → Option (List ℕ)
behind_colon text = behind_mark (span is_blank text).1

-- ---- tokens

abbrev pub byte_of : Sign → ℕ
byte_of mark.Comma = 44
byte_of mark.Colon = 58
byte_of mark.Plus = 43
byte_of mark.Minus = 45
byte_of mark.OpenBracket = 91
byte_of mark.CloseBracket = 93
byte_of mark.OpenParen = 40
byte_of mark.CloseParen = 41

-- a token and the text that spells it
pub data Spells : Token → List ℕ → Type 0 where
  word_text : (c : ℕ) (cs : List ℕ) → is_digit c ≡ false → AllPass is_name_byte (c ∷ cs) → Spells (Word (c ∷ cs)) (c ∷ cs)
  reference_text : (text : List ℕ) → is_reference text ≡ true → Spells (Word text) text
  number_text : (text : List ℕ) (n : ℕ) → IsNumeral text n → n < 2 ^ 32 → Spells (Number n) text
  percent_text : (name : List ℕ) (p : Named) → look_up percents name ≡ Some p → Spells (Percent p) (37 ∷ name)
  mark_text : (m : Sign) → Spells (Mark m) (byte_of m ∷ [])
  quoted_text : (text : List ℕ) → IsQuotable text → Spells (Quoted text) (34 ∷ text ++ 34 ∷ [])
  label_text : (d : ℕ) (gap : List ℕ) → is_digit d ≡ true → AllPass is_blank gap → Spells (Local (d - 48)) (d ∷ gap ++ 58 ∷ [])

-- a token that ends in a name's byte ends only where no such byte follows, and a number has no colon behind it
abbrev pub EndsBefore : Token → List ℕ → Type 0
EndsBefore (Mark m) rest = Unit {0}
EndsBefore (Quoted q) rest = Unit {0}
EndsBefore (Local d) rest = Unit {0}
EndsBefore (Number n) rest = (StartsWith is_name_byte rest → ⊥) × (behind_colon rest ≡ None)
EndsBefore _ rest = StartsWith is_name_byte rest → ⊥

-- The text is these tokens: blanks before and after each are free, and a comment may stand at the end.
pub data IsCutInto : List ℕ → List Token → Type 0 where
  cut_end : (gap : List ℕ) → AllPass is_blank gap → IsCutInto gap []
  cut_comment : (gap text : List ℕ) → AllPass is_blank gap → IsCutInto (gap ++ 33 ∷ text) []
  cut_token : (gap text rest : List ℕ) (t : Token) (ts : List Token) → AllPass is_blank gap → Spells t text → EndsBefore t rest → IsCutInto rest ts → IsCutInto (gap ++ (text ++ rest)) (t ∷ ts)
