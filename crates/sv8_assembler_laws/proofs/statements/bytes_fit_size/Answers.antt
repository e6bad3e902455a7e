use Rattle.sv8_asm.proofs.Sizes.{bytes_fit}
use Rattle.sv8_assembler_laws.proofs.statements.bytes_fit_size.Goals as goal

pub returns : goal.returns
returns c = bytes_fit
