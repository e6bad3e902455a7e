-- The frame law: an action that reads no cell in which two outsides differ does the same in both; and what it does not touch stays.
use Rattle.std.specs.Prelude.{◌≡◌, ℕ, ◌<◌, Bool, true, false, not, ◌&&◌, List, length, slice_index_or}
use Rattle.sv8_model.specs.declared.touch.Touch.{Touch}
use Rattle.sv8_model.specs.Outside.{Outside}
use Rattle.sv8_model.specs.Action.{Action, result_of, after, touches, observations}
use Rattle.sv8_model.specs.Cells.{Cell, Value, get, put, Has, Fits, same_cell, is_read, is_written}

-- a set of cells
abbrev pub Cells : Type 0
Cells = Cell → Bool

-- two outsides have the same size and output, and hold the same in all cells that are not in the set
pub record Alike (cells : Cells) (o o' : Outside) : Type 0 where
  pub size : length o.ram ≡ length o'.ram
  pub levels : length o.pending ≡ length o'.pending
  pub output : o.output ≡ o'.output
  pub same : (c : Cell) → cells c ≡ false → get c o ≡ get c o'

-- no cell of the set is read
abbrev pub Unread : Cells → List Touch → Type 0
Unread cells ts = (c : Cell) → cells c ≡ true → is_read ts c ≡ false

-- the set without what is written
abbrev pub remaining : Cells → List Touch → Cells
remaining cells ts c = cells c && not (is_written ts c)

-- an action does the same in two outsides, and leaves them alike but for cells of the set that it does not write
pub record Framed {R : Type 0} (cells : Cells) (a : Action R) (o o' : Outside) : Type 0 where
  pub result : result_of a o ≡ result_of a o'
  pub touched : touches a o ≡ touches a o'
  pub observed : observations a o ≡ observations a o'
  pub alike : Alike (remaining cells (touches a o)) (after a o) (after a o')

abbrev pub FrameOfAction : Type 0 → Type 0
FrameOfAction R = (cells : Cells) (a : Action R) (o o' : Outside) → Alike cells o o' → Unread cells (touches a o) → Framed cells a o o'

-- every byte of RAM is below 256, and there are 16 conditions of levels, of which level 0 is never pending
pub record IsSound (o : Outside) : Type 0 where
  pub bytes : (i : ℕ) → slice_index_or o.ram i 0 < 256
  pub count : length o.pending ≡ 16
  pub none_at_zero : slice_index_or o.pending 0 false ≡ false

abbrev pub SoundStays : Type 0 → Type 0
SoundStays R = (a : Action R) (o : Outside) → IsSound o → IsSound (after a o)

-- a cell that is neither read nor written holds what it held, and every cell stays
pub record Stays (ts : List Touch) (o o' : Outside) : Type 0 where
  pub size : length o'.ram ≡ length o.ram
  pub levels : length o'.pending ≡ length o.pending
  pub same : (c : Cell) → is_read ts c ≡ false → is_written ts c ≡ false → get c o' ≡ get c o

abbrev pub UntouchedStays : Type 0 → Type 0
UntouchedStays R = (a : Action R) (o : Outside) → IsSound o → Stays (touches a o) o (after a o)

-- the cell alone
abbrev pub only : Cell → Cells
only c d = same_cell c d

-- a cell holds what was put there last, and to put something changes no other cell
pub record CellsHold : Type 0 where
  pub got : (c : Cell) (v : Value) (o : Outside) → Has c o → Fits c v → get c (put c v o) ≡ v
  pub unchanged : (c : Cell) (o : Outside) → put c (get c o) o ≡ o
  pub last : (c : Cell) (v w : Value) (o : Outside) → put c w (put c v o) ≡ put c w o
  pub others : (c d : Cell) (v : Value) (o : Outside) → same_cell c d ≡ false → get d (put c v o) ≡ get d o
  -- an outside is another one but for a cell where it is that one with something put there
  pub alike : (c : Cell) (v : Value) (o : Outside) → Alike (only c) o (put c v o)
  pub put_there : (c : Cell) (o o' : Outside) → Alike (only c) o o' → o' ≡ put c (get c o') o
  -- what stands in a cell fits it, and what fits it may be put there
  pub fits : (c : Cell) (o : Outside) → IsSound o → Fits c (get c o)
  pub sound : (c : Cell) (v : Value) (o : Outside) → IsSound o → Has c o → Fits c v → IsSound (put c v o)
  pub has : (c d : Cell) (v : Value) (o : Outside) → Has d o → Has d (put c v o)
