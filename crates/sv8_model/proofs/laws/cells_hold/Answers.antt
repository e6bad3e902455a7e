use Rattle.sv8_model.proofs.CellLaws.{cells_hold}
use Rattle.sv8_model.proofs.laws.cells_hold.Goals as goal

pub returns : goal.returns
returns c = cells_hold
