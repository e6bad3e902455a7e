use Rattle.sv8_source.proofs.SourceLaws.{lines_rise}
use Rattle.sv8_assembler_laws.proofs.sources.lines_rise.Goals as goal

pub returns : goal.returns
returns c = lines_rise
