use Rattle.std.proofs.Common.{ap, ◌∙◌, arith}
use Rattle.sv8_model.specs.Levels.{levels_word}
use Rattle.sv8_phys.proofs.PendingWord.{word_of_bits}
use Rattle.sv8_phys.proofs.levels.Pending.word.Goals as goal

pub returns : goal.returns
returns c = c.from.ensures ∙ word_of_bits c.self.inside.levels (omega arith) ∙ ap levels_word c.self.view_is
