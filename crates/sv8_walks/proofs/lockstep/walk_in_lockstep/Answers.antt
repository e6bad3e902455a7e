use Rattle.std.proofs.Common.{◌*◌, ◌≤◌, arith}
use Rattle.sv8_bench.specs.Workbench.{checkpoints}
use Rattle.sv8_walks.proofs.Together.{recorded_within}
use Rattle.sv8_walks.proofs.lockstep.walk_in_lockstep.Goals as goal

pub returns-after-from-step-clause-within : goal.returns-after-from-step-clause-within
returns-after-from-step-clause-within g c =
    let k = g.row.K in
    let pos = c.sizes.ensures.some_steps in
    let step = c.in_ok-step.step in
    let ended = c.in_ok-step.ensures.ended in
    let end = c.min-end.ensures in
    let first = c.min.ensures in
    let own : step ≤ k * checkpoints c.args.now.now = omega (arith, ended, end, first, c.recorded.ensures.steps) in
    let others : step ≤ k * checkpoints c.args.before.now = omega (arith, ended, end, first, c.recorded-2.ensures.steps) in
    (recorded_within k (checkpoints c.args.now.now) step pos own, recorded_within k (checkpoints c.args.before.now) step pos others)
