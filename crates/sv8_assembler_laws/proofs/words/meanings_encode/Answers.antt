use Rattle.sv8_assembler_laws.proofs.Back.{meanings_encode_lem}
use Rattle.sv8_assembler_laws.proofs.words.meanings_encode.Goals as goal

pub returns : goal.returns
returns c = meanings_encode_lem
