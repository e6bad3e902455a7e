use Rattle.sv8_phys.proofs.PendingWord.{bits_pending}
use Rattle.sv8_part_laws.proofs.memory.bits_are_pending.Goals as goal

pub returns : goal.returns
returns c = bits_pending
