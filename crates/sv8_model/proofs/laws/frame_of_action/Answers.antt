use Rattle.sv8_model.proofs.Frames.{framed}
use Rattle.sv8_model.proofs.laws.frame_of_action.Goals as goal

pub returns : goal.returns
returns g c = framed
