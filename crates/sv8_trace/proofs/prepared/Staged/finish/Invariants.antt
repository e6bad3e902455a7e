use Rattle.std.proofs.Common.{◌≡◌}
use Rattle.sv8_trace.proofs.prepared.Staged.finish.Given as goal

abbrev pub invariant-loop-runs : goal.invariant-loop-runs
invariant-loop-runs l = l.columns.items ≡ l.yielded
