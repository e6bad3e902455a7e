-- The tokens of a text, read from left to right.
use Rattle.std.specs.Prelude.{ℕ, zero, suc, ◌+◌, ◌-◌, ◌*◌, ◌^◌, List, [], ◌∷◌, length, Bool, true, false, Option, Some, None, take, drop, ◌==◌, ◌&&◌, nat_lt, if◌then◌else◌}
use Rattle.sv8_statements.specs.Steps.{◌>>=◌}
use Rattle.sv8_tokens.specs.declared.token.Mark.{Mark as Sign}
use Rattle.sv8_tokens.specs.declared.token.Mark.TheVariants as mark
use Rattle.sv8_tokens.specs.Token.{Token, Word, Number, Percent, Mark, Quoted, Local}
use Rattle.sv8_tokens.specs.Spelling.{is_blank, is_name_byte, is_hex_digit, digit_value, span, behind_colon}
use Rattle.sv8_statements.specs.Names.{is_digit, is_reference}
use Rattle.sv8_statements.specs.Table.{look_up}
use Rattle.sv8_tokens.specs.Percents.{percents}

-- ---- numbers and words

-- the value of a digit, if the base has it
abbrev pub digit_of : ℕ → ℕ → Option ℕ
digit_of base c = if is_hex_digit c && nat_lt (digit_value c) base then Some (digit_value c) else None

-- the number that n and these digits behind it spell, if it is below 2^32
unfoldable pub number_from : ℕ → ℕ → List ℕ → Option ℕ
number_from base n [] = Some n
number_from base n (c ∷ cs) = digit_of base c >>= λ d. if nat_lt (base * n + d) (2 ^ 32) then number_from base (base * n + d) cs else None

-- 0, decimal digits without a leading 0, or 0x and hexadecimal digits
unfoldable pub numeral_of : List ℕ → Option ℕ
numeral_of [] = None
numeral_of (c ∷ []) = if c == 48 then Some 0 else number_from 10 0 (c ∷ [])
numeral_of (c ∷ x ∷ []) = if c == 48 then None else number_from 10 0 (c ∷ x ∷ [])
numeral_of (c ∷ x ∷ d ∷ ds) = if c == 48 then (if x == 120 then number_from 16 0 (d ∷ ds) else None) else number_from 10 0 (c ∷ x ∷ d ∷ ds)

-- the mark that a byte is
unfoldable pub mark_of : ℕ → Option Sign
mark_of c =
    if c == 44 then Some mark.Comma
    else (if c == 58 then Some mark.Colon
    else (if c == 43 then Some mark.Plus
    else (if c == 45 then Some mark.Minus
    else (if c == 91 then Some mark.OpenBracket
    else (if c == 93 then Some mark.CloseBracket
    else (if c == 40 then Some mark.OpenParen
    else (if c == 41 then Some mark.CloseParen
    else None)))))))

-- where the quote stands that ends the text; behind a backslash where the test is true
unfoldable pub quote_at : Bool → List ℕ → Option ℕ
quote_at escaped [] = None
quote_at true (c ∷ cs) = quote_at false cs >>= λ n. Some (n + 1)
quote_at false (c ∷ cs) = if c == 34 then Some 0 else (quote_at (c == 92) cs >>= λ n. Some (n + 1))

-- the label that a word is
unfoldable pub label_of : List ℕ → Option ℕ
label_of (d ∷ []) = if is_digit d then Some (d - 48) else None
label_of _ = None

-- a label where a colon follows, else a number
unfoldable pub label_or_number : List ℕ → List ℕ → Option (List ℕ) → Option (Token × List ℕ)
label_or_number word rest (Some behind) = label_of word >>= λ d. Some (Local d, behind)
label_or_number word rest None = numeral_of word >>= λ n. Some (Number n, rest)

-- what a run of name bytes that begins with a digit is, with what follows it
unfoldable pub digits_front : List ℕ → List ℕ → Option (Token × List ℕ)
digits_front word rest = if is_reference word then Some (Word word, rest) else label_or_number word rest (behind_colon rest)

-- what any run of name bytes is, with what follows it
unfoldable pub run_front : List ℕ → List ℕ → Option (Token × List ℕ)
run_front [] rest = None
run_front (c ∷ cs) rest = if is_digit c then digits_front (c ∷ cs) rest else Some (Word (c ∷ cs), rest)

-- a text in quotes, from behind its first quote
unfoldable pub quoted_front : List ℕ → Option (Token × List ℕ)
quoted_front text = quote_at false text >>= λ n. Some (Quoted (take n text), drop (n + 1) text)

-- what begins with a percent sign, from behind it
unfoldable pub percent_front : List ℕ → Option (Token × List ℕ)
percent_front text = look_up percents (span is_name_byte text).0 >>= λ p. Some (Percent p, (span is_name_byte text).1)

-- a token that is the longest run of name bytes, or begins with it
unfoldable pub word_front : List ℕ → Option (Token × List ℕ)
word_front text = run_front (span is_name_byte text).0 (span is_name_byte text).1

-- the mark at the front, or what a run of name bytes is
abbrev pub mark_front : Option Sign → List ℕ → List ℕ → Option (Token × List ℕ)
mark_front (Some m) rest text = Some (Mark m, rest)
mark_front None rest text = word_front text

-- the token at the front of a text that does not begin with a blank
unfoldable pub token_front : List ℕ → Option (Token × List ℕ)
token_front [] = None
token_front (c ∷ rest) =
    if c == 34 then quoted_front rest
    else (if c == 37 then percent_front rest
    else mark_front (mark_of c) rest (c ∷ rest))

-- where no more token stands
abbrev pub is_over : List ℕ → Bool
is_over [] = true
is_over (c ∷ cs) = c == 33

-- what the next token is, or that there is none
unfoldable pub next_of : List ℕ → Option (Option (Token × List ℕ))
next_of text = if is_over (span is_blank text).1 then Some None else (token_front (span is_blank text).1 >>= λ x. Some (Some x))

-- the token that was found, and those of what stands behind it
abbrev pub and_more : Option (Token × List ℕ) → (List ℕ → Option (List Token)) → Option (List Token)
and_more None more = Some []
and_more (Some x) more = more x.1 >>= λ ts. Some (x.0 ∷ ts)

-- the tokens of a text that has fewer bytes than the number: each token takes one at least
unfoldable pub tokens_within : ℕ → List ℕ → Option (List Token)
tokens_within zero text = None
tokens_within (suc n) text = next_of text >>= λ next. and_more next (λ rest. tokens_within n rest)

-- the tokens of a text
unfoldable pub tokens_of : List ℕ → Option (List Token)
tokens_of text = tokens_within (suc (length text)) text
