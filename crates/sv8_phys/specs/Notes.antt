-- What is noted of an access to RAM.
use Rattle.std.specs.Prelude.{ℕ, ◌+◌, ◌*◌, ◌/◌, List, [], ◌∷◌}
use Rattle.sv8_model.specs.declared.touch.Touch.{Touch}
use Rattle.sv8_model.specs.declared.touch.Touch.TheVariants.{Read, Write}
use Rattle.sv8_model.specs.Outside.{word_address}
use Rattle.sv8_model.specs.declared.size.Size.{Size}
use Rattle.sv8_model.specs.declared.size.Size.TheVariants.{Byte, Half, Word, Double}

-- what a load touches: the word of each byte, or each word
abbrev pub load_touches : Size → ℕ → List Touch
load_touches Byte a = Read (word_address a) ∷ []
load_touches Half a = Read (word_address a) ∷ Read (word_address (a + 1)) ∷ []
load_touches Word a = Read (word_address a) ∷ []
load_touches Double a = Read (word_address a) ∷ Read (4 * (a / 4 + 1)) ∷ []

-- what a store touches: a byte or a halfword leaves the rest of its word, so it counts as a read
abbrev pub store_touches : Size → ℕ → List Touch
store_touches Byte a = Read (word_address a) ∷ []
store_touches Half a = Read (word_address a) ∷ Read (word_address (a + 1)) ∷ []
store_touches Word a = Write (word_address a) ∷ []
store_touches Double a = Write (word_address a) ∷ Write (4 * (a / 4 + 1)) ∷ []
