use Rattle.sv8_assembler_laws.proofs.Fields.{values_fit_fields}
use Rattle.sv8_assembler_laws.proofs.statements.values_fit_fields.Goals as goal

pub returns : goal.returns
returns c = values_fit_fields
