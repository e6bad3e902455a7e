use Rattle.sv8_cpu.proofs.Common.{framed}
use Rattle.sv8_step_laws.proofs.laws.steps_frame.Goals as goal

pub returns : goal.returns
returns c = framed
