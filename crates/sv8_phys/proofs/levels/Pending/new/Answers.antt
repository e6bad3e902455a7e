use Rattle.std.proofs.Common.{refl}
use Rattle.sv8_phys.specs.Pending.{levels_of_word}
use Rattle.sv8_phys.proofs.PendingLevels.{are_levels}
use Rattle.sv8_phys.proofs.levels.Pending.new.Goals as goal

pub returns-clause-value : goal.returns-clause-value
unfolding levels_of_word
returns-clause-value c = refl

pub returns-clause-shape : goal.returns-clause-shape
returns-clause-shape c = are_levels 0 refl
