use Rattle.std.proofs.Common.{◌∙◌, ◌+◌, ◌-◌, ◌/◌, max, sym, ap, arith}
use Rattle.sv8_cpu.specs.Work.{counted_by}
use Rattle.sv8_bench.specs.Workbench.{checkpoints}
use Rattle.sv8_walks.proofs.Walking.{none_more, step_counted, raised_tried}
use Rattle.sv8_walks.proofs.walk.Walk.go_to.Goals as goal

pub returns-in_err-pass-clause-raised : goal.returns-in_err-pass-clause-raised
returns-in_err-pass-clause-raised g c =
    let inv = c.loop-self.invariant in
    raised_tried c.loop-self.self.step c.args.self.now.step c.args.step c.args.bench.now.worked c.loop-self.bench.worked c.pass.new.bench.worked inv.begun
    (omega (arith, c.loop-self-test.true, c.step.ensures)) inv.counted c.in_err-pass.ensures.unmade.worked

pub loop-self-preserved : goal.loop-self-preserved
loop-self-preserved g c =
    let inv = c.loop-self.invariant in
    let n = c.loop-self.self.step in
    let from = c.args.self.now.step in
    let made = c.in_ok-pass.ensures.made in
    let next = c.in_ok-pass.ensures.step in
    let first = c.args.bench.now.worked in
    record {
      walk = c.in_ok-pass.ensures.walk;
      begun = omega (arith, inv.begun, next);
      below = omega (arith, c.loop-self-test.true, c.step.ensures, next);
      kept = made.kept ∙ inv.kept;
      recorded = made.recorded ∙ ap (λ x. max x ((n + 1) / g.row.K)) inv.recorded
          ∙ none_more g.row.K (checkpoints c.args.bench.now) n c.args.step c.sizes.ensures.some_steps (omega (arith, c.loop-self-test.true, c.step.ensures)) c.requires.recorded;
      counted = step_counted n from first c.loop-self.bench.worked c.pass.new.bench.worked inv.begun inv.counted made.worked ∙ ap (λ m. counted_by (m - from) first) (sym next);
    }
