-- The notes of the steps from a checkpoint to the next one. A step is named by its offset, the number of steps since the checkpoint.
use Rattle.std.specs.Prelude.{◌≡◌, ℕ, ◌<◌, ◌≤◌, ◌==◌, ◌&&◌, ◌||◌, Bool, true, false, leb, ltb, List, [], Option, Some, None}
use Rattle.std.specs.List.{list_any}
use Rattle.sv8_model.specs.declared.touch.Touch.{Touch}
use Rattle.sv8_model.specs.Words.{bit}
use Rattle.sv8_model.specs.Levels.{timer_level}
use Rattle.sv8_model.specs.Outside.{word_address}
use Rattle.sv8_model.specs.Footprint.{reads_input, is_touch_of, touches_data}
use Rattle.sv8_model.specs.Cells.{Cell, ram_byte, waiting_bytes, pending_level, is_read}
use Rattle.sv8_history.specs.Machine.{Footprint}
use Rattle.sv8_notes.specs.declared.notes.WordNote.{WordNote}
use Rattle.sv8_notes.specs.declared.level_run.LevelRun.{LevelRun}
use Rattle.sv8_notes.specs.Touched.{is_told_written}

pub record Steps : Type 0 where
  -- the words of RAM that steps fetch, those that they read besides, and those that they write
  pub fetches : List WordNote
  pub reads : List WordNote
  pub writes : List WordNote
  -- the levels that steps ask, in runs of steps that ask the same
  pub levels : List LevelRun
  -- the steps that take or count the bytes that wait at the console, and those in which the timer expires
  pub inputs : List ℕ
  pub expiries : List ℕ

-- of no steps
abbrev pub no_steps : Steps
no_steps = record { fetches = []; reads = []; writes = []; levels = []; inputs = []; expiries = [] }

-- ---- the footprint of a step

-- it is the note of a word at a step
abbrev pub is_word_of : ℕ → ℕ → WordNote → Bool
is_word_of address offset note = note.address == address && note.offset == offset

-- a word is among the notes at a step
abbrev pub has_word : List WordNote → ℕ → ℕ → Bool
has_word notes address offset = list_any (is_word_of address offset) notes

-- a level is asked in a run that the step is in
abbrev pub is_asked_in : ℕ → ℕ → LevelRun → Bool
is_asked_in level offset run = leb run.first offset && ltb offset run.end && bit run.levels level

abbrev pub is_among : ℕ → List ℕ → Bool
is_among offset offsets = list_any (λ o. o == offset) offsets

abbrev pub reads_in : Steps → Cell → ℕ → Bool
reads_in s (ram_byte i) offset = has_word s.fetches (word_address i) offset || has_word s.reads (word_address i) offset
reads_in s waiting_bytes offset = is_among offset s.inputs
reads_in s (pending_level l) offset = list_any (is_asked_in l offset) s.levels

abbrev pub writes_in : Steps → Cell → ℕ → Bool
writes_in s (ram_byte i) offset = has_word s.writes (word_address i) offset
writes_in s waiting_bytes offset = false
writes_in s (pending_level l) offset = l == timer_level && is_among offset s.expiries

-- what is not fetched is data
abbrev pub data_in : Steps → Cell → ℕ → Bool
data_in s (ram_byte i) offset = has_word s.reads (word_address i) offset || has_word s.writes (word_address i) offset
data_in s waiting_bytes offset = false
data_in s (pending_level l) offset = false

abbrev pub footprint_in : Steps → ℕ → Footprint Cell
footprint_in s offset = record { reads = λ c. reads_in s c offset; writes = λ c. writes_in s c offset; uses = λ c. data_in s c offset; takes = is_among offset s.inputs }

-- some touches are of the word of a byte
abbrev pub are_of : List Touch → Cell → Bool
are_of ts (ram_byte i) = list_any (is_touch_of (word_address i)) ts
are_of ts waiting_bytes = false
are_of ts (pending_level l) = false

-- all words that a step touches are its data
abbrev pub IsAllData : List Touch → Type 0
IsAllData ts = (address : ℕ) → touches_data ts address ≡ list_any (is_touch_of address) ts

-- a step touches more, some of it as data, and the others touch what they did
pub record Gains (offset : ℕ) (ts data_of_it : List Touch) (old new : Steps) : Type 0 where
  pub uses : (c : Cell) (j : ℕ) → data_in new c j ≡ (data_in old c j || (j == offset && are_of data_of_it c))
  pub reads : (c : Cell) (j : ℕ) → reads_in new c j ≡ (reads_in old c j || (j == offset && is_read ts c))
  pub writes : (c : Cell) (j : ℕ) → writes_in new c j ≡ (writes_in old c j || (j == offset && is_told_written ts c))
  pub takes : (j : ℕ) → is_among j new.inputs ≡ (is_among j old.inputs || (j == offset && reads_input ts))

-- ---- searches

-- `found` is the least step from `from` on and below `end` in `f`
abbrev pub IsFirstBelow : (ℕ → Bool) → ℕ → ℕ → Option ℕ → Type 0
IsFirstBelow f from end None = (n : ℕ) → from ≤ n → n < end → f n ≡ false
IsFirstBelow f from end (Some s) = (from ≤ s) × (s < end) × (f s ≡ true) × ((n : ℕ) → from ≤ n → n < s → f n ≡ false)
