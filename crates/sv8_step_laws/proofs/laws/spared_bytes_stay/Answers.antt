use Rattle.sv8_step_laws.proofs.Data.{spared_bytes_stay}
use Rattle.sv8_step_laws.proofs.laws.spared_bytes_stay.Goals as goal

pub returns : goal.returns
returns c = spared_bytes_stay
