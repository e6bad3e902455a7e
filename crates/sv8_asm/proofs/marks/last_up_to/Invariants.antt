use Rattle.std.proofs.Common.{◌≡◌, length, map, None}
use Rattle.sv8_asm.specs.Names.{last_of}
use Rattle.sv8_asm.specs.Index.{mark_of}
use Rattle.sv8_asm.proofs.marks.last_up_to.Given as goal

abbrev pub invariant-loop-rest : goal.invariant-loop-rest
invariant-loop-rest l = last_of l.found l.line (map mark_of l.rest) ≡ last_of None l.line (map mark_of l.labels)

abbrev pub decreases-loop-rest : goal.decreases-loop-rest
decreases-loop-rest l = length l.rest
