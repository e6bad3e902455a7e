use Rattle.sv8_part_laws.proofs.Choice.{first, raised}
use Rattle.sv8_part_laws.proofs.traps.the_first_is_taken.Goals as goal

pub returns : goal.returns
returns g = record { raised = raised; first = first }
