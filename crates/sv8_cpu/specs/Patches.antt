-- Patches, as changes of the machine that the theory of recorded runs has.
use Rattle.std.specs.Prelude.{ℕ, List, map}
use Rattle.sv8_model.specs.Cells.{Value}
use Rattle.sv8_history.specs.Changes as history
use Rattle.sv8_notes.specs.Cells.{cell_of, content_of, IsCell}
use Rattle.sv8_notes.specs.declared.patch.Patch.{Patch}
use Rattle.sv8_notes.specs.declared.patch.Cause.{Cause}
use Rattle.sv8_notes.specs.declared.patch.Cause.TheVariants.{Source, Poke, Uncover}
use Rattle.sv8_cpu.specs.Recorded.{machine}

abbrev pub cause_of : Cause → history.Cause Value
cause_of (Source content) = history.Image (content_of content)
cause_of (Poke content) = history.Poke (content_of content)
cause_of Uncover = history.Clear

abbrev pub change_of : (windows pages : ℕ) → Patch → history.Change (machine windows pages)
change_of windows pages p = record { cell = cell_of p.cell; from = p.from; to = p.to; cause = cause_of p.cause }

abbrev pub changes_of : (windows pages : ℕ) → List Patch → List (history.Change (machine windows pages))
changes_of windows pages ps = map (change_of windows pages) ps

-- the machine has the cell
abbrev pub IsPatch : ℕ → Patch → Type 0
IsPatch pages p = IsCell pages p.cell
