use Rattle.sv8_edits.proofs.Standing.{standing_inputs}
use Rattle.sv8_edits.proofs.laws.standing_inputs.Goals as goal

pub returns : goal.returns
returns c = standing_inputs
