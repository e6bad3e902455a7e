use Rattle.sv8_model.proofs.Staying.{sound}
use Rattle.sv8_model.proofs.laws.sound_stays.Goals as goal

pub returns : goal.returns
returns g c = sound
