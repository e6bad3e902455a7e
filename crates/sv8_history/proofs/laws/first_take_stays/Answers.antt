use Rattle.sv8_history.proofs.Input as lemmas
use Rattle.sv8_history.proofs.laws.first_take_stays.Goals as goal

pub returns : goal.returns
returns g c = lemmas.first_take_stays g.M.Recorded.machine
