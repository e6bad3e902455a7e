-- The texts of answers, as bytes: numbers, lists, the last line, and what is in memory or was put out.
use Rattle.std.specs.Prelude.{ℕ, ◌+◌, ◌*◌, ◌/◌, ◌%◌, ◌==◌, List, [], ◌∷◌, ◌++◌, length, flat_map, Option, Some, None, nat_lt, if◌then◌else◌, codes, decimal}
use Rattle.sv8_commands.specs.Refusal.{Refusal}

-- ---- numbers

-- a hexadecimal digit, upper case
abbrev pub hex_digit : ℕ → ℕ
hex_digit d = if nat_lt d 10 then 48 + d else 55 + d

-- the 2 digits of a byte
unfoldable pub hex_byte : ℕ → List ℕ
hex_byte b = hex_digit (b / 16 % 16) ∷ hex_digit (b % 16) ∷ []

-- the 8 digits of a word
unfoldable pub hex_word : ℕ → List ℕ
hex_word w =
    hex_digit (w / 268435456 % 16) ∷ hex_digit (w / 16777216 % 16) ∷ hex_digit (w / 1048576 % 16) ∷ hex_digit (w / 65536 % 16)
    ∷ hex_digit (w / 4096 % 16) ∷ hex_digit (w / 256 % 16) ∷ hex_digit (w / 16 % 16) ∷ hex_digit (w % 16) ∷ []

-- ---- texts of lists

-- the texts of a list's items, one after the other, where each is told its number
abbrev pub numbered_text : {X : Type 0} → (ℕ → X → List ℕ) → ℕ → List X → List ℕ
numbered_text f i [] = []
numbered_text f i (x ∷ xs) = f i x ++ numbered_text f (i + 1) xs

-- ---- the last line of an answer

unfoldable pub ok_line : List ℕ
ok_line = codes "ok\n"

-- the number of the line that is at fault, if the fault is a line's
abbrev pub at_line : Option ℕ → List ℕ
at_line None = []
at_line (Some line) = codes " line " ++ decimal line

unfoldable pub refusal_line : Refusal → List ℕ
refusal_line r = codes "refused " ++ decimal r.number ++ codes " " ++ r.name ++ at_line r.line ++ codes "\n"

-- ---- registers, memory and output

-- words behind a name
unfoldable pub words_line : List ℕ → List ℕ → List ℕ
words_line name words = name ++ flat_map (λ w. codes " " ++ hex_word w) words ++ codes "\n"

-- the line of `mem` for word i from an address on
unfoldable pub memory_line : ℕ → ℕ → ℕ → List ℕ
memory_line first i word = hex_word (first + 4 * i) ++ codes " " ++ hex_word word ++ codes "\n"

abbrev pub memory_text : ℕ → List ℕ → List ℕ
memory_text first words = numbered_text (memory_line first) 0 words

-- byte i that was put out; 32 of them make a line
unfoldable pub output_byte : ℕ → ℕ → List ℕ
output_byte i b = hex_byte b ++ (if i % 32 == 31 then codes "\n" else [])

-- the end of the last line, where it has fewer
abbrev pub output_end : ℕ → List ℕ
output_end count = if count % 32 == 0 then [] else codes "\n"

abbrev pub output_text : List ℕ → List ℕ
output_text bytes = numbered_text output_byte 0 bytes ++ output_end (length bytes)
