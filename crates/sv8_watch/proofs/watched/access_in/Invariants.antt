use Rattle.std.proofs.Common.{◌≡◌, length}
use Rattle.sv8_watch.specs.Happening.{access_in}
use Rattle.sv8_watch.proofs.watched.access_in.Given as goal

abbrev pub invariant-loop-rest : goal.invariant-loop-rest
invariant-loop-rest l = access_in l.rest ≡ access_in l.observations

abbrev pub decreases-loop-rest : goal.decreases-loop-rest
decreases-loop-rest l = length l.rest
