use Rattle.sv8_phys.proofs.Difference.{differences_are_least}
use Rattle.sv8_part_laws.proofs.memory.differences_are_least.Goals as goal

pub returns : goal.returns
returns c = differences_are_least
