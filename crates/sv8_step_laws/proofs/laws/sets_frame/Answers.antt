use Rattle.sv8_step_laws.proofs.Frames.{sets_frame}
use Rattle.sv8_step_laws.proofs.laws.sets_frame.Goals as goal

pub returns : goal.returns
returns c = sets_frame
