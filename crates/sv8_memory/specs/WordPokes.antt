-- The poked bytes of a step as code writes them, word by word. They come to what specs/Events.antt says of bytes.
use Rattle.std.specs.Prelude.{ℕ, ◌+◌, ◌≤◌, List, [], ◌∷◌, Option, Some, None, slice_set, slice_index_or}
use Rattle.sv8_time.specs.declared.words.WordPoke.{WordPoke}

-- a byte is written, if there is one
abbrev pub byte_poked : ℕ → Option ℕ → List ℕ → List ℕ
byte_poked at None ram = ram
byte_poked at (Some value) ram = slice_set ram at value

-- the bytes of a word, one after the other
abbrev pub word_poked : WordPoke → List ℕ → List ℕ
word_poked w ram =
    byte_poked (w.address + 3) (slice_index_or w.bytes 3 None) (byte_poked (w.address + 2) (slice_index_or w.bytes 2 None)
    (byte_poked (w.address + 1) (slice_index_or w.bytes 1 None) (byte_poked w.address (slice_index_or w.bytes 0 None) ram)))

-- several words, one after the other
abbrev pub words_poked : List WordPoke → List ℕ → List ℕ
words_poked [] ram = ram
words_poked (w ∷ ws) ram = words_poked ws (word_poked w ram)

-- each word lies in RAM
abbrev pub AreInside : ℕ → List WordPoke → Type 0
AreInside limit [] = Unit {0}
AreInside limit (w ∷ ws) = (w.address + 4 ≤ limit) × AreInside limit ws
