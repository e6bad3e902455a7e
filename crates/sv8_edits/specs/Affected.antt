-- What an edit affects of the machine, as the change of the run that it stands for.
use Rattle.std.specs.Prelude.{ℕ}
use Rattle.std.specs.List.{All}
use Rattle.sv8_cpu.specs.Patches.{changes_of, IsPatch}
use Rattle.sv8_edits.specs.Changes.{RunChange, cells, input}
use Rattle.sv8_edits.specs.declared.affected.Affected.{Affected}
use Rattle.sv8_edits.specs.declared.affected.Affected.TheVariants.{Cells, Input}

-- the change of the run that it stands for
abbrev pub change_of : (windows pages : ℕ) → Affected → RunChange windows pages
change_of windows pages (Cells patches) = cells (changes_of windows pages patches.items)
change_of windows pages (Input step) = input step

-- its patches are of cells of the machine
abbrev pub AreOfMachine : ℕ → Affected → Type 0
AreOfMachine pages (Cells patches) = All (IsPatch pages) patches.items
AreOfMachine pages (Input step) = Unit {0}
