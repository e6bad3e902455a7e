use Rattle.sv8_edits.proofs.EditedImage.{image_edits}
use Rattle.sv8_edits.proofs.laws.image_edits.Goals as goal

pub returns : goal.returns
returns c = image_edits
