use Rattle.std.proofs.Common.{◌+◌, ◌*◌, length}
use Rattle.sv8_mmu.proofs.walk.+levels.Given as goal

abbrev pub decreases-below_pointer : goal.decreases-below_pointer
decreases-below_pointer g l = 2 * length l.below.now

abbrev pub decreases-look_up : goal.decreases-look_up
decreases-look_up g l = 2 * length l.below.now + 1
