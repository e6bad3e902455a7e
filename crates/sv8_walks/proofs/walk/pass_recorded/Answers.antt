use Rattle.std.proofs.Common.{◌∙◌, ◌+◌, ◌/◌, ◌≤◌, inl, max, ap, arith}
use Rattle.sv8_workbench.specs.Kept.{Kept}
use Rattle.sv8_workbench.specs.Shown.{machine_state}
use Rattle.sv8_bench.specs.Workbench.{Workbench, checkpoints}
use Rattle.sv8_bench.proofs.Queried.{full}
use Rattle.sv8_walks.proofs.Walking.{none_more, step_counted, raised_tried}
use Rattle.sv8_walks.proofs.walk.pass_recorded.Goals as goal

pub returns-in_err-step_restored-clause-raised : goal.returns-in_err-step_restored-clause-raised
returns-in_err-step_restored-clause-raised g c =
    raised_tried c.loop-n.n c.args.from c.args.to c.args.bench.now.worked c.loop-n.bench.worked c.step_restored.new.bench.worked c.loop-n.invariant.begun c.loop-n-test.true
    c.loop-n.invariant.counted (inl (ap (λ (w : Workbench). w.worked) c.in_err-step_restored.ensures.unmade))

pub loop-n-preserved : goal.loop-n-preserved
loop-n-preserved g c =
    let inv = c.loop-n.invariant in
    let k = g.row.K in
    let n = c.loop-n.n in
    let made = c.in_ok-step_restored.ensures.made in
    let pos = c.sizes.ensures.some_steps in
    let kept = made.kept ∙ inv.kept in
    let last : c.args.to / k ≤ checkpoints c.args.bench.now = full k (checkpoints c.args.bench.now) c.args.to pos (omega (arith, c.requires.recorded, pos)) in
    record {
      begun = omega (arith, inv.begun);
      within = omega (arith, c.loop-n-test.true);
      state = c.in_ok-step_restored.ensures.state ∙ ap (λ (x : Kept). machine_state x (n + 1)) kept;
      kept = kept;
      recorded = made.recorded ∙ ap (λ x. max x ((n + 1) / k)) inv.recorded ∙ none_more k (checkpoints c.args.bench.now) n c.args.to pos c.loop-n-test.true last;
      counted = step_counted n c.args.from c.args.bench.now.worked c.loop-n.bench.worked c.step_restored.new.bench.worked c.loop-n.invariant.begun inv.counted made.worked;
    }
