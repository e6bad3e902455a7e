use Rattle.std.proofs.Common.{◌≤◌, length, subst, arith}
use Rattle.sv8_history.specs.Growing.{restored}
use Rattle.sv8_trace.specs.Checkpoints.{IsCheckpoint}
use Rattle.sv8_trace.specs.Recording.{recorded, trace_of}
use Rattle.sv8_bench.proofs.Queried.{point_at}
use Rattle.sv8_search.proofs.Untouched.{of_bench}
use Rattle.sv8_search.proofs.touching.checkpoint.Goals as goal

pub returns : goal.returns
returns g c =
    let k = g.row.K in
    let w = c.args.bench.now in
    let n = c.args.step in
    let within : n ≤ recorded k w.recording = omega (arith, c.if-step-recorded.false, c.recorded.ensures.steps) in
    let there =
    of_bench (λ windows pages r. IsCheckpoint ((trace_of windows pages k r).point (restored k (length r.intervals) n)) c.checkpoint.result) w _ _ _
    c.sizes.ensures.windows c.sizes.ensures.pages c.trace-trace.ensures c.checkpoint.ensures in
    let same = point_at k c.sizes.ensures.some_steps w.kept w.recording w.worked c.recorded.ensures.run n within c.if-step-ne0.false in
    (within, subst (λ s. IsCheckpoint s c.checkpoint.result) same there)
