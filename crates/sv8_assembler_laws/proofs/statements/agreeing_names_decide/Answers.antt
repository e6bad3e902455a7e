use Rattle.sv8_asm.proofs.UsedNames.{agreeing_names_decide}
use Rattle.sv8_assembler_laws.proofs.statements.agreeing_names_decide.Goals as goal

pub returns : goal.returns
returns c = agreeing_names_decide
