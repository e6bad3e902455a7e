use Rattle.sv8_phys.proofs.PieceLemmas.{pieces_are_output}
use Rattle.sv8_part_laws.proofs.memory.pieces_are_the_output.Goals as goal

pub returns : goal.returns
returns c = pieces_are_output
