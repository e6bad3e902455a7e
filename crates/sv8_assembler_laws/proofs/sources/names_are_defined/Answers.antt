use Rattle.sv8_assembler_laws.proofs.NamesStand.{names_are_defined}
use Rattle.sv8_assembler_laws.proofs.sources.names_are_defined.Goals as goal

pub returns : goal.returns
returns c = names_are_defined
