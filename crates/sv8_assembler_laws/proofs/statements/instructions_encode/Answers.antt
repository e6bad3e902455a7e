use Rattle.sv8_assembler_laws.proofs.Encodes.{instructions_encode}
use Rattle.sv8_assembler_laws.proofs.statements.instructions_encode.Goals as goal

pub returns : goal.returns
returns c = instructions_encode
