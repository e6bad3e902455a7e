use Rattle.std.proofs.Common.{◌≡◌, ◌++◌, length}
use Rattle.sv8_trace.specs.Recorder.{below_requests}
use Rattle.sv8_trace.proofs.recorder.keep_levels.Given as goal

abbrev pub invariant-loop-rest : goal.invariant-loop-rest
invariant-loop-rest g l = l.kept ++ below_requests l.offset l.machine l.rest ≡ l.fn.kept ++ below_requests l.offset l.machine l.fn.requests

abbrev pub decreases-loop-rest : goal.decreases-loop-rest
decreases-loop-rest g l = length l.rest
