use Rattle.sv8_edits.proofs.Standing.{standing_words}
use Rattle.sv8_edits.proofs.laws.standing_words.Goals as goal

pub returns : goal.returns
returns c = standing_words
