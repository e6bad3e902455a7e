use Rattle.std.proofs.Common.{◌∙◌, ap}
use Rattle.sv8_time.specs.Schedule.{pokes_of_step}
use Rattle.sv8_time.specs.Words.{bytes_of_words}
use Rattle.sv8_time.proofs.WordPlaces.{bytes_of_step}
use Rattle.sv8_time.proofs.PokeEdits.{poked_at}
use Rattle.sv8_time.proofs.pokes.Pokes.at.Goals as goal

pub returns-clause-value : goal.returns-clause-value
returns-clause-value c = ap bytes_of_words c.at.ensures.value ∙ (bytes_of_step c.args.step c.self.inside.words ∙ ap (pokes_of_step c.args.step) c.self.view_is)

pub returns-clause-poked : goal.returns-clause-poked
returns-clause-poked c = poked_at c.args.step c.self.inside.words c.at.result.now c.self.inside.by_address c.self.invariant c.at.ensures.value
