use Rattle.sv8_assembler_laws.proofs.InRange.{in_range}
use Rattle.sv8_assembler_laws.proofs.words.encodes_in_range.Goals as goal

pub returns : goal.returns
returns c = in_range
