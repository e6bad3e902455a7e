use Rattle.sv8_model.proofs.Staying.{stays}
use Rattle.sv8_model.proofs.laws.untouched_stays.Goals as goal

pub returns : goal.returns
returns g c = stays
