use Rattle.std.proofs.Common.{◌+◌, ◌-◌, length}
use Rattle.sv8_phys.specs.Parts.{groups_halves, IsSame}
use Rattle.sv8_phys.proofs.directory.Directory.reach.Given as goal

abbrev pub invariant-loop-group : goal.invariant-loop-group
invariant-loop-group l = IsSame (groups_halves l.fn.self.groups.items) (groups_halves l.self.groups.items)

abbrev pub decreases-loop-group : goal.decreases-loop-group
decreases-loop-group l = l.group + 1 - length l.self.groups.items
