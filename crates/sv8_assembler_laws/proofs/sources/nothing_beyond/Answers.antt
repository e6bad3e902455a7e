use Rattle.sv8_assembler_laws.proofs.LaidBytes.{nothing_beyond}
use Rattle.sv8_assembler_laws.proofs.sources.nothing_beyond.Goals as goal

pub returns : goal.returns
returns c = nothing_beyond
