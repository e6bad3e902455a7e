-- What is told of a step has the footprint of what was noted.
use Rattle.std.specs.Prelude.{◌≡◌, ℕ, List}
use Rattle.std.specs.List.{list_any}
use Rattle.sv8_model.specs.declared.touch.Touch.{Touch}
use Rattle.sv8_model.specs.Cells.{Cell, is_read, is_written}
use Rattle.sv8_model.specs.Footprint.{is_write_of, writes_word}
use Rattle.sv8_touches.specs.Told.{told}

-- every cell is read, and written, by what is told exactly as by what was noted
pub record FootprintIsTold : Type 0 where
  pub reads : (ts : List Touch) (c : Cell) → is_read (told ts) c ≡ is_read ts c
  pub writes : (ts : List Touch) (c : Cell) → is_written (told ts) c ≡ is_written ts c

-- a word is told as written only where it is not read, so a write that is told needs no second look
abbrev pub WritesAreUnread : Type 0
WritesAreUnread = (ts : List Touch) (address : ℕ) → list_any (is_write_of address) (told ts) ≡ writes_word ts address
