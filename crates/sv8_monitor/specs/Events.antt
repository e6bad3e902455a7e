-- The lines of what stands in a timeline, as commands that set it.
use Rattle.std.specs.Prelude.{ℕ, ◌+◌, ◌-◌, ◌%◌, ◌==◌, ◌&&◌, Bool, List, [], ◌∷◌, ◌++◌, slice_index_or, Option, Some, None, if◌then◌else◌, codes, decimal}
use Rattle.std.specs.List.{range_with_len}
use Rattle.sv8_time.specs.Schedule.{Schedule, BytePoke, poke_of, pokes_of_step, bytes_of_step, requests_of_step}
use Rattle.sv8_time.specs.declared.requests.Request.{Request}
use Rattle.sv8_time.specs.declared.words.WordPoke.{WordPoke}
use Rattle.sv8_commands.specs.Text.{hex_byte, hex_word, numbered_text}

-- ---- pokes

-- a name, a step and an address
abbrev pub poke_place : List ℕ → ℕ → ℕ → List ℕ
poke_place name step address = name ++ decimal step ++ codes " " ++ hex_word address ++ codes " "

-- the line of a byte
unfoldable pub byte_line : BytePoke → List ℕ
byte_line p = poke_place (codes "pokeb ") p.step p.address ++ hex_byte p.value ++ codes "\n"

-- the line of a word, by the values of its bytes
unfoldable pub word_line : ℕ → ℕ → ℕ → ℕ → ℕ → ℕ → List ℕ
word_line step address a b c d = poke_place (codes "poke ") step address ++ hex_byte a ++ hex_byte b ++ hex_byte c ++ hex_byte d ++ codes "\n"

-- a byte is the first of a word, and another one its last
abbrev pub is_word : BytePoke → BytePoke → Bool
is_word first last = first.address % 4 == 0 && last.address == first.address + 3

-- of the poked bytes of a step, in rising address: all four of a word are one line
abbrev pub pokes_text : List BytePoke → List ℕ
pokes_text [] = []
pokes_text (p ∷ []) = byte_line p
pokes_text (p ∷ q ∷ []) = byte_line p ++ byte_line q
pokes_text (p ∷ q ∷ r ∷ []) = byte_line p ++ (byte_line q ++ byte_line r)
pokes_text (p ∷ q ∷ r ∷ s ∷ ps) = if is_word p s then word_line p.step p.address p.value q.value r.value s.value ++ pokes_text ps else byte_line p ++ pokes_text (q ∷ r ∷ s ∷ ps)

-- the same by words, of which all bytes are poked, or some

abbrev pub some_line : ℕ → ℕ → Option ℕ → List ℕ
some_line step address None = []
some_line step address (Some value) = byte_line (poke_of step address value)

abbrev pub four_lines : ℕ → ℕ → List (Option ℕ) → List ℕ
four_lines step address bytes =
    some_line step address (slice_index_or bytes 0 None) ++ some_line step (address + 1) (slice_index_or bytes 1 None)
    ++ some_line step (address + 2) (slice_index_or bytes 2 None) ++ some_line step (address + 3) (slice_index_or bytes 3 None)

abbrev pub lines_of_word : ℕ → ℕ → List (Option ℕ) → List ℕ
lines_of_word step address (Some a ∷ Some b ∷ Some c ∷ Some d ∷ []) = word_line step address a b c d
lines_of_word step address bytes = four_lines step address bytes

abbrev pub word_lines : WordPoke → List ℕ
word_lines w = lines_of_word w.step w.address w.bytes

abbrev pub words_text : List WordPoke → List ℕ
words_text ws = numbered_text (λ i w. word_lines w) 0 ws

-- ---- input and requests

-- the digits of bytes, two for each
abbrev pub digits_text : List ℕ → List ℕ
digits_text bytes = numbered_text (λ i b. hex_byte b) 0 bytes

abbrev pub input_text : ℕ → List ℕ → List ℕ
input_text n [] = []
input_text n (b ∷ bytes) = (codes "input " ++ decimal n ++ codes " ") ++ (digits_text (b ∷ bytes) ++ codes "\n")

unfoldable pub request_line : Request → List ℕ
request_line r = codes "irq " ++ decimal r.step ++ codes " " ++ decimal r.level ++ codes "\n"

abbrev pub requests_text : List Request → List ℕ
requests_text rs = numbered_text (λ i r. request_line r) 0 rs

-- ---- steps

-- what stands at step n
unfoldable pub step_events : Schedule → ℕ → List ℕ
step_events s n = pokes_text (pokes_of_step n s.pokes) ++ (input_text n (bytes_of_step n s.inputs) ++ requests_text (requests_of_step n s.requests))

-- from one step on and below another
abbrev pub events_text : Schedule → ℕ → ℕ → List ℕ
events_text s from to = numbered_text (λ n x. step_events s n) from (range_with_len from (to - from))
