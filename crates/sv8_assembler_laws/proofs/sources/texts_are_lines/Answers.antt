use Rattle.sv8_source.proofs.SourceLaws.{texts_are_lines}
use Rattle.sv8_assembler_laws.proofs.sources.texts_are_lines.Goals as goal

pub returns : goal.returns
returns c = texts_are_lines
