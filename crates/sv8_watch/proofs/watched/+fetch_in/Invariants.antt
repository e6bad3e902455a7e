use Rattle.std.proofs.Common.{length}
use Rattle.sv8_watch.proofs.watched.+fetch_in.Given as goal

abbrev pub decreases-fetch_in : goal.decreases-fetch_in
decreases-fetch_in l = length l.observations.now
