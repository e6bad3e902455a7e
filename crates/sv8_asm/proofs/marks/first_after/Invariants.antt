use Rattle.std.proofs.Common.{◌≡◌, length, map}
use Rattle.sv8_asm.specs.Names.{first_behind}
use Rattle.sv8_asm.specs.Index.{mark_of}
use Rattle.sv8_asm.proofs.marks.first_after.Given as goal

abbrev pub invariant-loop-rest : goal.invariant-loop-rest
invariant-loop-rest l = first_behind l.line (map mark_of l.rest) ≡ first_behind l.line (map mark_of l.labels)

abbrev pub decreases-loop-rest : goal.decreases-loop-rest
decreases-loop-rest l = length l.rest
