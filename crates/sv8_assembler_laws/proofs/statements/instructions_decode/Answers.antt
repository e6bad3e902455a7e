use Rattle.sv8_assembler_laws.proofs.Decodes.{decode}
use Rattle.sv8_assembler_laws.proofs.statements.instructions_decode.Goals as goal

pub returns : goal.returns
returns c = decode
