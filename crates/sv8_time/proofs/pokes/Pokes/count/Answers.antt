use Rattle.std.proofs.Common.{◌∙◌, sym, ap}
use Rattle.sv8_time.specs.Schedule.{word_count}
use Rattle.sv8_time.proofs.PokeEdits.{count_same}
use Rattle.sv8_time.proofs.pokes.Pokes.count.Goals as goal

pub returns : goal.returns
returns c = c.count.ensures ∙ (sym (count_same c.self.inside.words c.self.inside.by_address c.self.invariant) ∙ ap word_count c.self.view_is)
