use Rattle.sv8_assembler_laws.proofs.ToldNames.{names_are_told}
use Rattle.sv8_assembler_laws.proofs.sources.names_are_told.Goals as goal

pub returns : goal.returns
returns c = names_are_told
