use Rattle.std.proofs.Common.{refl, rules}
use Rattle.sv8_memory.proofs.Accesses.{plain_load}
use Rattle.sv8_memory.proofs.physical.Physical.load_plain.Goals as goal

pub returns-clause-ok : goal.returns-clause-ok
returns-clause-ok g c = λ bytes. plain_load _ _ _ _ _ _ _ _ _ _ _ _ _ _ _ (rw (c.load_answer.ensures.memory) refl) (c.in_ok-answer.ensures.ok bytes) (search rules) c.load_answer.ensures.served
