use Rattle.sv8_history.proofs.Input as lemmas
use Rattle.sv8_history.proofs.laws.untaken_agrees.Goals as goal

pub returns : goal.returns
returns g c = lemmas.untaken_agrees g.M.Recorded.machine
