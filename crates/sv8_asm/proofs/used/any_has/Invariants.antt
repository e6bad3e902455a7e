use Rattle.std.proofs.Common.{◌≡◌, length}
use Rattle.std.specs.List.{list_any}
use Rattle.sv8_asm.specs.Uses.{has_name}
use Rattle.sv8_asm.proofs.used.any_has.Given as goal

abbrev pub invariant-loop-rest : goal.invariant-loop-rest
invariant-loop-rest l = list_any (has_name l.name) l.rest ≡ list_any (has_name l.name) l.exprs

abbrev pub decreases-loop-rest : goal.decreases-loop-rest
decreases-loop-rest l = length l.rest
