use Rattle.std.proofs.Common.{take}
use Rattle.sv8_notes.specs.Steps.{IsFirstBelow, has_word}
use Rattle.sv8_notes.proofs.notes.first_of_word.Given as goal

abbrev pub invariant-loop-note : goal.invariant-loop-note
invariant-loop-note l = IsFirstBelow (has_word (take l.note-index l.notes) l.address) l.from l.end l.found
