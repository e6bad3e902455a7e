use Rattle.sv8_mmu.proofs.probing.+sought.Given as goal

abbrev pub decreases-sought : goal.decreases-sought
decreases-sought g l = l.depth
