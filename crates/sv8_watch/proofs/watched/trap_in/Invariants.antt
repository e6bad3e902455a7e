use Rattle.std.proofs.Common.{◌≡◌, length}
use Rattle.sv8_watch.specs.Happening.{trap_in}
use Rattle.sv8_watch.proofs.watched.trap_in.Given as goal

abbrev pub invariant-loop-rest : goal.invariant-loop-rest
invariant-loop-rest l = trap_in l.rest ≡ trap_in l.observations

abbrev pub decreases-loop-rest : goal.decreases-loop-rest
decreases-loop-rest l = length l.rest
