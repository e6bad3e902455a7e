use Rattle.sv8_asm.proofs.UsedNames.{used_names_decide}
use Rattle.sv8_assembler_laws.proofs.statements.used_names_decide.Goals as goal

pub returns : goal.returns
returns c = used_names_decide
