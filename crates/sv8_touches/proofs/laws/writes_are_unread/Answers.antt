use Rattle.sv8_touches.proofs.ToldLaws.{writes_told}
use Rattle.sv8_touches.proofs.laws.writes_are_unread.Goals as goal

pub returns : goal.returns
returns c = writes_told
