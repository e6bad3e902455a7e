use Rattle.std.proofs.Common.{take}
use Rattle.std.specs.List.{list_any}
use Rattle.sv8_notes.specs.Steps.{IsFirstBelow, is_asked_in}
use Rattle.sv8_notes.proofs.notes.Notes.first_asking.Given as goal

abbrev pub invariant-loop-run : goal.invariant-loop-run
invariant-loop-run l = IsFirstBelow (λ n. list_any (is_asked_in l.level n) (take l.run-index l.run-items)) l.from l.end l.found
