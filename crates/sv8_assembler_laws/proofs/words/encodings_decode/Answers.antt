use Rattle.sv8_assembler_laws.proofs.Forth.{forth}
use Rattle.sv8_assembler_laws.proofs.words.encodings_decode.Goals as goal

pub returns : goal.returns
returns c = forth
