-- How far the notes of each word reach.
use Rattle.std.specs.Prelude.{◌≡◌, ℕ, ◌+◌, ◌*◌, ◌/◌, ◌%◌, ◌<◌, ◌≤◌, List, [], slice_index_or, false}
use Rattle.sv8_notes.specs.Steps.{Steps, has_word}

-- the mark of the word that a byte is in, of the marks of all pages
abbrev pub mark_of : List (List ℕ) → ℕ → ℕ
mark_of marks address = slice_index_or (slice_index_or marks (address / 4096) []) (address % 4096 / 4) 0

-- the marks of so many words, from the one at an address on, are not below a number
abbrev pub AreMarkedFrom : List (List ℕ) → ℕ → ℕ → ℕ → Type 0
AreMarkedFrom marks address mark count = (k : ℕ) → k < count → mark ≤ mark_of marks (address + 4 * k)

-- no step fetches, reads or writes a word
abbrev pub IsUntouched : Steps → ℕ → Type 0
IsUntouched s address = (offset : ℕ) → (has_word s.fetches address offset ≡ false) × (has_word s.reads address offset ≡ false) × (has_word s.writes address offset ≡ false)
