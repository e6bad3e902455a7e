use Rattle.sv8_history.proofs.Common.{none_set}
use Rattle.sv8_trace.proofs.trace.Trace.set_points.Goals as goal

pub returns-then-low-end-clause-points : goal.returns-then-low-end-clause-points
returns-then-low-end-clause-points g c = λ i h. none_set c.args.low c.args.end i _ _ c.if-low-end.true
