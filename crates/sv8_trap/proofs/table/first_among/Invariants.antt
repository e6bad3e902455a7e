use Rattle.std.proofs.Common.{◌≡◌, length}
use Rattle.sv8_trap.specs.Table.{first_among}
use Rattle.sv8_trap.proofs.table.first_among.Given as goal

abbrev pub invariant-loop-rest : goal.invariant-loop-rest
invariant-loop-rest l = first_among l.first l.rest ≡ first_among l.fn.first l.fn.others

abbrev pub decreases-loop-rest : goal.decreases-loop-rest
decreases-loop-rest l = length l.rest
