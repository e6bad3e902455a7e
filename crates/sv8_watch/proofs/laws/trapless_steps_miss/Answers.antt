use Rattle.sv8_watch.proofs.Quiet.{trapless_steps_miss}
use Rattle.sv8_watch.proofs.laws.trapless_steps_miss.Goals as goal

pub returns : goal.returns
returns c = trapless_steps_miss
