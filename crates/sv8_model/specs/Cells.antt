-- Cells: the parts of the outside that an edit of past inputs can change. What stands in a cell, and the outside with another value there.
use Rattle.std.specs.Prelude.{ℕ, ◌<◌, ◌≤◌, ◌==◌, Bool, true, false, ◌&&◌, List, [], length, slice_index_or, slice_set}
use Rattle.sv8_model.specs.declared.touch.Touch.{Touch}
use Rattle.sv8_model.specs.Outside.{Outside, word_address}
use Rattle.sv8_model.specs.Levels.{timer_level}
use Rattle.sv8_model.specs.Footprint.{reads_word, writes_word, reads_input, reads_level, expires, touches_data}

pub data Cell : Type 0 where
  -- the byte of RAM at an address
  ram_byte : ℕ → Cell
  -- the bytes that wait at the console
  waiting_bytes : Cell
  -- whether a level is pending
  pending_level : ℕ → Cell

-- what stands in a cell
pub data Value : Type 0 where
  byte : ℕ → Value
  queue : List ℕ → Value
  held : Bool → Value

-- a value as one of each kind
abbrev pub byte_of : Value → ℕ
byte_of (byte b) = b
byte_of v = 0

abbrev pub queue_of : Value → List ℕ
queue_of (queue bs) = bs
queue_of v = []

abbrev pub held_of : Value → Bool
held_of (held b) = b
held_of v = false

abbrev pub get : Cell → Outside → Value
get (ram_byte i) o = byte (slice_index_or o.ram i 0)
get waiting_bytes o = queue o.waiting
get (pending_level l) o = held (slice_index_or o.pending l false)

abbrev pub put : Cell → Value → Outside → Outside
put (ram_byte i) v o = record o { ram = slice_set o.ram i (byte_of v) }
put waiting_bytes v o = record o { waiting = queue_of v }
put (pending_level l) v o = record o { pending = slice_set o.pending l (held_of v) }

abbrev pub same_cell : Cell → Cell → Bool
same_cell (ram_byte i) (ram_byte j) = i == j
same_cell waiting_bytes waiting_bytes = true
same_cell (pending_level k) (pending_level l) = k == l
same_cell c d = false

-- the outside has the cell
abbrev pub Has : Cell → Outside → Type 0
Has (ram_byte i) o = i < length o.ram
Has waiting_bytes o = Unit {0}
Has (pending_level l) o = (1 ≤ l) × (l < length o.pending)

-- the cell can hold the value
abbrev pub Fits : Cell → Value → Type 0
Fits (ram_byte i) (byte b) = b < 256
Fits waiting_bytes (queue bs) = Unit {0}
Fits (pending_level l) (held b) = Unit {0}
Fits c v = ⊥

-- a byte is read and written with its word; the waiting bytes are never written whole; the level of the timer is written where it expires
abbrev pub is_read : List Touch → Cell → Bool
is_read ts (ram_byte i) = reads_word ts (word_address i)
is_read ts waiting_bytes = reads_input ts
is_read ts (pending_level l) = reads_level ts l

abbrev pub is_written : List Touch → Cell → Bool
is_written ts (ram_byte i) = writes_word ts (word_address i)
is_written ts waiting_bytes = false
is_written ts (pending_level l) = l == timer_level && expires ts

-- a byte of RAM is data with its word; no other cell is
abbrev pub is_data : List Touch → Cell → Bool
is_data ts (ram_byte i) = touches_data ts (word_address i)
is_data ts waiting_bytes = false
is_data ts (pending_level l) = false
