use Rattle.std.proofs.Common.{take}
use Rattle.sv8_notes.specs.Steps.{IsFirstBelow, is_among}
use Rattle.sv8_notes.proofs.offsets.first_among.Given as goal

abbrev pub invariant-loop-offset : goal.invariant-loop-offset
invariant-loop-offset l = IsFirstBelow (λ n. is_among n (take l.offset-index l.offsets)) l.from l.end l.found
