use Rattle.sv8_assembler_laws.proofs.Apart.{rows_are_apart_lem}
use Rattle.sv8_assembler_laws.proofs.words.rows_are_apart.Goals as goal

pub returns : goal.returns
returns c = rows_are_apart_lem
