use Rattle.sv8_assembler_laws.proofs.Lowest.{least_fault_is_named}
use Rattle.sv8_assembler_laws.proofs.sources.least_fault_is_named.Goals as goal

pub returns : goal.returns
returns c = least_fault_is_named
