use Rattle.sv8_step_laws.proofs.WholeSteps.{steps_are_whole}
use Rattle.sv8_step_laws.proofs.laws.steps_are_whole.Goals as goal

pub returns : goal.returns
returns c = steps_are_whole
