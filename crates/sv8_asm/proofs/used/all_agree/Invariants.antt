use Rattle.std.proofs.Common.{◌≡◌, length}
use Rattle.std.specs.List.{list_all}
use Rattle.sv8_asm.specs.Uses.{agree_on}
use Rattle.sv8_asm.proofs.used.all_agree.Given as goal

abbrev pub invariant-loop-rest : goal.invariant-loop-rest
invariant-loop-rest l = list_all (agree_on l.names l.line l.others l.other) l.rest ≡ list_all (agree_on l.names l.line l.others l.other) l.exprs

abbrev pub decreases-loop-rest : goal.decreases-loop-rest
decreases-loop-rest l = length l.rest
