use Rattle.sv8_search.proofs.Sought.{starts}
use Rattle.sv8_search.proofs.descent.interval_start.Goals as goal

pub returns : goal.returns
returns g c = starts g.row.K c.args.to c.args.end _ c.requires.some_steps c.requires.ordered c.max.ensures
