use Rattle.sv8_touches.proofs.ToldLaws.{footprint_told}
use Rattle.sv8_touches.proofs.laws.footprint_is_told.Goals as goal

pub returns : goal.returns
returns c = footprint_told
