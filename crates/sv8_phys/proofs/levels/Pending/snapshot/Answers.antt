use Rattle.std.proofs.Common.{subst}
use Rattle.sv8_phys.specs.Pending.{AreLevels}
use Rattle.sv8_phys.proofs.PendingLevels.{are_levels}
use Rattle.sv8_phys.proofs.levels.Pending.snapshot.Goals as goal

pub returns-clause-shape : goal.returns-clause-shape
returns-clause-shape c = subst AreLevels c.self.view_is (are_levels c.self.inside.levels c.self.invariant)
