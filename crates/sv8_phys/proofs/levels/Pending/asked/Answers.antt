use Rattle.std.proofs.Common.{ap, ◌∙◌, arith}
use Rattle.sv8_model.specs.Levels.{asked}
use Rattle.sv8_phys.proofs.PendingLevels.{asked_word}
use Rattle.sv8_phys.proofs.levels.Pending.asked.Goals as goal

pub returns : goal.returns
returns c = c.from.ensures ∙ asked_word c.self.inside.levels c.args.levels (omega arith) ∙ ap (asked c.args.levels) c.self.view_is
