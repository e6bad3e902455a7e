-- What is looked for in the steps.
use Rattle.std.specs.Prelude.{ℕ, ◌||◌, Bool, Option, None}
use Rattle.sv8_model.specs.Cells.{Cell}
use Rattle.sv8_history.specs.Machine.{Footprint}
use Rattle.sv8_notes.specs.declared.notes.Sought.{Sought}
use Rattle.sv8_notes.specs.declared.notes.Sought.TheVariants.{Read, Write, Touch, Input}
use Rattle.sv8_notes.specs.Cells.{cell_of, word_of_cell}

-- a step with this footprint does what is sought
abbrev pub is_met : Sought → Footprint Cell → Bool
is_met (Read cell) f = f.reads (cell_of cell)
is_met (Write cell) f = f.writes (cell_of cell)
is_met (Touch cell) f = f.reads (cell_of cell) || f.writes (cell_of cell)
is_met Input f = f.takes

-- the address of the word that is looked for
abbrev pub sought_word : Sought → Option ℕ
sought_word (Read cell) = word_of_cell cell
sought_word (Write cell) = word_of_cell cell
sought_word (Touch cell) = word_of_cell cell
sought_word Input = None
