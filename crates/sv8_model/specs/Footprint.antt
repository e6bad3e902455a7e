-- The footprint of a step, from what it touches: what it reads, and what it writes without reading it, in whatever order it does that.
-- A word of RAM is named by its address, a multiple of 4.
use Rattle.std.specs.Prelude.{ℕ, ◌==◌, Bool, true, false, not, ◌&&◌, ◌||◌, List, [], ◌∷◌, if◌then◌else◌}
use Rattle.std.specs.List.{list_any}
use Rattle.sv8_model.specs.declared.touch.Touch.{Touch}
use Rattle.sv8_model.specs.declared.touch.Touch.TheVariants.{Read, Write, Input, Levels, Expiry}
use Rattle.sv8_model.specs.Words.{bit}

-- ---- one touch

abbrev pub is_read_of : ℕ → Touch → Bool
is_read_of address (Read other) = other == address
is_read_of address t = false

abbrev pub is_write_of : ℕ → Touch → Bool
is_write_of address (Write other) = other == address
is_write_of address t = false

abbrev pub is_input : Touch → Bool
is_input Input = true
is_input t = false

-- it asks a level
abbrev pub asks : ℕ → Touch → Bool
asks level (Levels word) = bit word level
asks level t = false

abbrev pub is_expiry : Touch → Bool
is_expiry Expiry = true
is_expiry t = false

-- ---- a step

-- a word is read: fetched, walked as a table entry, loaded, or stored in part
abbrev pub reads_word : List Touch → ℕ → Bool
reads_word ts address = list_any (is_read_of address) ts

-- a word is stored whole, and not read
abbrev pub writes_word : List Touch → ℕ → Bool
writes_word ts address = list_any (is_write_of address) ts && not (reads_word ts address)

-- a waiting byte is taken, or they are counted
abbrev pub reads_input : List Touch → Bool
reads_input ts = list_any is_input ts

-- a level is asked
abbrev pub reads_level : List Touch → ℕ → Bool
reads_level ts level = list_any (asks level) ts

-- the timer expires
abbrev pub expires : List Touch → Bool
expires ts = list_any is_expiry ts

-- ---- data

-- a word is read or written, in whatever order
abbrev pub is_touch_of : ℕ → Touch → Bool
is_touch_of address t = is_read_of address t || is_write_of address t

-- Of a step that reads one word and touches nothing else, no word is data; of one that reads a word, and then reads one more or writes another one, that second
-- one is. The first one was read to fetch. Of any other step all that it touches counts as data.
abbrev pub behind_fetch : List Touch → List Touch
behind_fetch (Read fetched ∷ []) = []
behind_fetch (Read fetched ∷ Read other ∷ []) = Read other ∷ []
behind_fetch (Read fetched ∷ Write other ∷ []) = if fetched == other then Read fetched ∷ Write other ∷ [] else Write other ∷ []
behind_fetch ts = ts

-- the same of a step that may ask interrupt levels first
abbrev pub data_touches : List Touch → List Touch
data_touches (Levels word ∷ ts) = behind_fetch ts
data_touches ts = behind_fetch ts

-- a word is touched as data
abbrev pub touches_data : List Touch → ℕ → Bool
touches_data ts address = list_any (is_touch_of address) (data_touches ts)
