use Rattle.std.proofs.Common.{◌≡◌, length}
use Rattle.sv8_notes.specs.Touching.{are_notes_in}
use Rattle.sv8_notes.proofs.notes.are_in.Given as goal

abbrev pub invariant-loop-rest : goal.invariant-loop-rest
invariant-loop-rest l = are_notes_in l.low l.last l.from l.end l.rest ≡ are_notes_in l.low l.last l.from l.end l.notes

abbrev pub decreases-loop-rest : goal.decreases-loop-rest
decreases-loop-rest l = length l.rest
