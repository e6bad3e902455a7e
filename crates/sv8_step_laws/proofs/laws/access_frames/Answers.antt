use Rattle.sv8_model.proofs.Common.{framed}
use Rattle.sv8_memory.specs.Access.{access}
use Rattle.sv8_step_laws.proofs.laws.access_frames.Goals as goal

pub returns : goal.returns
returns c = λ limit u request cells o o' alike unread. framed cells (access limit u request) o o' alike unread
