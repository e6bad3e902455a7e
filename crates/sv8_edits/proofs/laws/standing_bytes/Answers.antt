use Rattle.sv8_edits.proofs.Standing.{standing_bytes}
use Rattle.sv8_edits.proofs.laws.standing_bytes.Goals as goal

pub returns : goal.returns
returns c = standing_bytes
