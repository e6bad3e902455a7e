use Rattle.sv8_walks.proofs.Ordinary.{memory_counts}
use Rattle.sv8_walks.proofs.machines.memories.count_down.Goals as goal

pub returns : goal.returns
returns g c = memory_counts _ _ c.requires c.in_ok-tick.ensures.ok c.tick.ensures.taken c.tick.ensures.mmu
