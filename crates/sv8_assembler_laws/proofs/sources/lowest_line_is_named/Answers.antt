use Rattle.sv8_assembler_laws.proofs.Lowest.{lowest_line_is_named}
use Rattle.sv8_assembler_laws.proofs.sources.lowest_line_is_named.Goals as goal

pub returns : goal.returns
returns c = lowest_line_is_named
