use Rattle.std.proofs.Common.{◌∙◌, sym, ap}
use Rattle.sv8_time.specs.Schedule.{has_word}
use Rattle.sv8_time.proofs.WordPlaces.{has_words}
use Rattle.sv8_time.proofs.pokes.Pokes.has_word.Goals as goal

pub returns : goal.returns
returns c = rw (c.has.ensures, c.unpoked.ensures.step, c.unpoked.ensures.address) (sym (has_words c.args.step c.args.address c.self.inside.words c.self.invariant.poked) ∙ ap (has_word c.args.step c.args.address) c.self.view_is)
