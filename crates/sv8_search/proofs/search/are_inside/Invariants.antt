use Rattle.std.proofs.Common.{◌≡◌, length}
use Rattle.sv8_phys.specs.Memory.{ram_size}
use Rattle.sv8_search.specs.Search.{are_inside}
use Rattle.sv8_search.proofs.search.are_inside.Given as goal

abbrev pub invariant-loop-rest : goal.invariant-loop-rest
invariant-loop-rest g l = are_inside (ram_size g.row.PAGES) l.rest ≡ are_inside (ram_size g.row.PAGES) l.conditions

abbrev pub decreases-loop-rest : goal.decreases-loop-rest
decreases-loop-rest g l = length l.rest
