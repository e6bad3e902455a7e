use Rattle.sv8_watch.proofs.Running.{running_steps_miss}
use Rattle.sv8_watch.proofs.laws.running_steps_miss.Goals as goal

pub returns : goal.returns
returns c = running_steps_miss
