use Rattle.sv8_memory.proofs.memory.Memory.happen.Goals as goal

pub invariant_of-self : goal.invariant_of-self
invariant_of-self g c = c.happen.ensures.stand _ c.self.invariant

pub invariant_of-self-2 : goal.invariant_of-self-2
invariant_of-self-2 g c = c.happen.ensures.stand _ c.self.invariant
