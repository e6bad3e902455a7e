use Rattle.sv8_edits.proofs.Standing.{standing_requests}
use Rattle.sv8_edits.proofs.laws.standing_requests.Goals as goal

pub returns : goal.returns
returns c = standing_requests
