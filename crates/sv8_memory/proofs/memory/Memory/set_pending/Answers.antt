use Rattle.std.proofs.Common.{refl, ap}
use Rattle.sv8_memory.proofs.Accesses.{stand_on}
use Rattle.sv8_memory.proofs.memory.Memory.set_pending.Goals as goal

pub invariant_of-self : goal.invariant_of-self
invariant_of-self g c = stand_on _ _ _ _ _ _ (ap (λ m. m.ram) c.set_pending.ensures) refl c.self.invariant
