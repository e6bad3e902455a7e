-- What is told of a step at its end.
use Rattle.std.specs.Prelude.{ℕ, ◌==◌, Bool, true, false, not, List, [], ◌∷◌, ◌++◌, filter, bit_or, if◌then◌else◌}
use Rattle.sv8_model.specs.declared.touch.Touch.{Touch}
use Rattle.sv8_model.specs.declared.touch.Touch.TheVariants.{Write, Levels}
use Rattle.sv8_model.specs.Footprint.{reads_word}

-- the levels that a touch asks
abbrev pub levels_of : Touch → ℕ
levels_of (Levels word) = word
levels_of t = 0

-- all levels that some touch asks
abbrev pub levels_in : List Touch → ℕ
levels_in [] = 0
levels_in (t ∷ ts) = bit_or (levels_of t) (levels_in ts)

-- one touch of all these levels, if there are any
abbrev pub levels_note : ℕ → List Touch
levels_note word = if word == 0 then [] else Levels word ∷ []

-- a touch is told as it stands: a write only where its word is not read, and levels not at all
abbrev pub is_told : List Touch → Touch → Bool
is_told ts (Write address) = not (reads_word ts address)
is_told ts (Levels word) = false
is_told ts t = true

-- what is told of a step: each read, each write of a word that is not read, the input and the expiry as they were noted, and then all levels at once
unfoldable pub told : List Touch → List Touch
told ts = filter (is_told ts) ts ++ levels_note (levels_in ts)
