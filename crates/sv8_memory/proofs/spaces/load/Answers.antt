use Rattle.std.proofs.Common.{ap}
use Rattle.sv8_memory.proofs.Accesses.{stand_on}
use Rattle.sv8_memory.proofs.spaces.load.Goals as goal

pub returns-in_err-response-in-Physical-clause-serves : goal.returns-in_err-response-in-Physical-clause-serves
returns-in_err-response-in-Physical-clause-serves g c = stand_on _ _ _ _ _ _ c.load.ensures.kept c.load.ensures.pointer c.requires.serves

pub returns-in_ok-response-in-Physical-clause-serves : goal.returns-in_ok-response-in-Physical-clause-serves
returns-in_ok-response-in-Physical-clause-serves g c = stand_on _ _ _ _ _ _ c.load.ensures.kept c.load.ensures.pointer c.requires.serves

pub returns-then-is_word-clause-serves : goal.returns-then-is_word-clause-serves
returns-then-is_word-clause-serves g c = stand_on _ _ _ _ _ _ (ap (λ m. m.ram) c.load_register.ensures.memory) c.load_register.ensures.pointer c.requires.serves
