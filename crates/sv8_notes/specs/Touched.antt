-- What touches a cell, as it is told of a step.
use Rattle.std.specs.Prelude.{◌==◌, ◌&&◌, Bool, true, false, List}
use Rattle.std.specs.List.{list_any}
use Rattle.sv8_model.specs.declared.touch.Touch.{Touch}
use Rattle.sv8_model.specs.declared.touch.Touch.TheVariants.{Read, Write, Input, Levels, Expiry}
use Rattle.sv8_model.specs.Words.{bit}
use Rattle.sv8_model.specs.Levels.{timer_level}
use Rattle.sv8_model.specs.Outside.{word_address}
use Rattle.sv8_model.specs.Footprint.{is_write_of, is_expiry}
use Rattle.sv8_model.specs.Cells.{Cell, ram_byte, waiting_bytes, pending_level}

-- a touch reads or writes the cell
abbrev pub is_touched_by : Cell → Touch → Bool
is_touched_by (ram_byte i) (Read word) = word == word_address i
is_touched_by (ram_byte i) (Write word) = word == word_address i
is_touched_by (ram_byte i) t = false
is_touched_by waiting_bytes Input = true
is_touched_by waiting_bytes t = false
is_touched_by (pending_level l) (Levels word) = bit word l
is_touched_by (pending_level l) Expiry = l == timer_level
is_touched_by (pending_level l) t = false

abbrev pub is_touched : List Touch → Cell → Bool
is_touched ts c = list_any (is_touched_by c) ts

-- Some touch writes the cell. Of a step a write is told only where its word is not read, so none need be looked for.
abbrev pub is_told_written : List Touch → Cell → Bool
is_told_written ts (ram_byte i) = list_any (is_write_of (word_address i)) ts
is_told_written ts waiting_bytes = false
is_told_written ts (pending_level l) = l == timer_level && list_any is_expiry ts
