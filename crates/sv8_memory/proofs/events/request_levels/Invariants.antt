use Rattle.std.proofs.Common.{◌≡◌, length}
use Rattle.sv8_memory.specs.Events.{marked}
use Rattle.sv8_memory.proofs.events.request_levels.Given as goal

abbrev pub invariant-loop-rest : goal.invariant-loop-rest
invariant-loop-rest g l =
    record l.phys { pending = marked l.rest l.phys.pending } ≡ record l.fn.phys { pending = marked l.fn.requests l.fn.phys.pending }

abbrev pub decreases-loop-rest : goal.decreases-loop-rest
decreases-loop-rest g l = length l.rest
