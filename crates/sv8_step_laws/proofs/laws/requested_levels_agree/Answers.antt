use Rattle.sv8_step_laws.proofs.Frames.{requested_levels_agree}
use Rattle.sv8_step_laws.proofs.laws.requested_levels_agree.Goals as goal

pub returns : goal.returns
returns c = requested_levels_agree
