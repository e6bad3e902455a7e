use Rattle.std.proofs.Common.{◌≡◌, take}
use Rattle.sv8_trace.proofs.trace.copying.share_all.Given as goal

abbrev pub invariant-loop-interval : goal.invariant-loop-interval
invariant-loop-interval l = l.shared.items ≡ take l.interval-index l.intervals
