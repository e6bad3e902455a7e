use Rattle.sv8_notes.proofs.Recorded.{ended_gains}
use Rattle.sv8_notes.proofs.laws.ended_steps_are_told.Goals as goal

pub returns : goal.returns
returns c = ended_gains
