use Rattle.std.proofs.Common.{◌∙◌, ◌+◌, ◌/◌, inl, max, refl, ap, arith, subst}
use Rattle.sv8_walks.specs.Together.{AreInLockstep}
use Rattle.sv8_workbench.specs.Kept.{Kept}
use Rattle.sv8_bench.specs.Workbench.{Workbench, checkpoints}
use Rattle.sv8_walks.proofs.Together.{alike_first, alike_next, chosen, none_counted, recorded_within}
use Rattle.sv8_walks.proofs.Walking.{none_more, step_counted, raised_tried}
use Rattle.sv8_walks.proofs.lockstep.pass_both.Goals as goal

pub loop-n-init : goal.loop-n-init
loop-n-init g c = record {
  begun = omega arith;
  within = c.requires.ordered;
  in_lockstep = c.requires.in_lockstep;
  idle = λ none. (refl, refl);
  alike = alike_first c.args.now.now.kept c.args.before.now.kept c.args.from c.args.machine.now c.args.other.now c.requires.in_lockstep;
  kept = refl;
  others_kept = refl;
  recorded = refl;
  others_recorded = refl;
  counted = none_counted c.args.from c.args.now.now.worked;
  others_counted = none_counted c.args.from c.args.before.now.worked;
}

pub returns-in_err-made-clause-raised : goal.returns-in_err-made-clause-raised
returns-in_err-made-clause-raised g c =
    raised_tried c.loop-n.n c.args.from c.args.to c.args.now.now.worked c.loop-n.now.worked c.step_both.new.now.worked c.loop-n.invariant.begun c.loop-n-test.true
    c.loop-n.invariant.counted (inl (ap (λ (w : Workbench). w.worked) c.in_err-made.ensures.unmade.0))

pub returns-in_err-made-clause-others_raised : goal.returns-in_err-made-clause-others_raised
returns-in_err-made-clause-others_raised g c =
    raised_tried c.loop-n.n c.args.from c.args.to c.args.before.now.worked c.loop-n.before.worked c.step_both.new.before.worked c.loop-n.invariant.begun c.loop-n-test.true
    c.loop-n.invariant.others_counted (inl (ap (λ (w : Workbench). w.worked) c.in_err-made.ensures.unmade.1))

pub loop-n-preserved : goal.loop-n-preserved
loop-n-preserved g c =
    let inv = c.loop-n.invariant in
    let k = g.row.K in
    let n = c.loop-n.n in
    let from = c.args.from in
    let to = c.args.to in
    let now = c.args.now.now in
    let before = c.args.before.now in
    let new = c.step_both.new in
    let pos = c.sizes.ensures.some_steps in
    let told = c.in_ok-made.ensures in
    let is = c.if-not-made.false in
    let below = c.loop-n-test.true in
    let own = chosen _ _ c.in_ok-made.made is told.made in
    let others = chosen _ _ c.in_ok-made.made is told.others_made in
    let in_lockstep = subst (λ (x : Kept). AreInLockstep x before.kept (n + 1) new.machine new.other) inv.kept
    (subst (λ (x : Kept). AreInLockstep c.loop-n.now.kept x (n + 1) new.machine new.other) inv.others_kept (chosen _ _ c.in_ok-made.made is told.in_lockstep)) in
    record {
      begun = omega (arith, inv.begun);
      within = omega (arith, below);
      in_lockstep = in_lockstep;
      idle = λ none. absurd (omega (arith, none, inv.begun));
      alike = alike_next now.kept before.kept from n new.machine new.other inv.alike in_lockstep;
      kept = own.kept ∙ inv.kept;
      others_kept = others.kept ∙ inv.others_kept;
      recorded = own.recorded ∙ ap (λ x. max x ((n + 1) / k)) inv.recorded
          ∙ none_more k (checkpoints now) n to pos below (recorded_within k (checkpoints now) to pos c.requires.recorded);
      others_recorded = others.recorded ∙ ap (λ x. max x ((n + 1) / k)) inv.others_recorded
          ∙ none_more k (checkpoints before) n to pos below (recorded_within k (checkpoints before) to pos c.requires.others_recorded);
      counted = step_counted n from now.worked c.loop-n.now.worked new.now.worked inv.begun inv.counted own.worked;
      others_counted = step_counted n from before.worked c.loop-n.before.worked new.before.worked inv.begun inv.others_counted others.worked;
    }
