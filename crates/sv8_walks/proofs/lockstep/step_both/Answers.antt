use Rattle.std.proofs.Common.{◌∙◌, inl, sym, arith}
use Rattle.sv8_walks.specs.Lockstep.{lent}
use Rattle.sv8_walks.proofs.Together.{chosen, made_if, fed_by, next_state}
use Rattle.sv8_walks.proofs.Walking.{counted_step}
use Rattle.sv8_walks.proofs.lockstep.step_both.Goals as goal

pub pass_in_lockstep-requires : goal.pass_in_lockstep-requires
pass_in_lockstep-requires g c =
    let n = c.args.step in
    let here = c.requires.in_lockstep in (
      omega (arith, c.sizes.ensures.few_windows),
      (
        fed_by c.args.now.now.kept n c.timeline.result.now c.args.machine.now c.timeline.ensures here.state,
        fed_by c.args.before.now.kept n c.timeline-2.result.now (lent c.args.machine.now c.args.other.now) c.timeline-2.ensures here.others,
      ),
    )

pub returns-then-made-clause-in_lockstep : goal.returns-then-made-clause-in_lockstep
returns-then-made-clause-in_lockstep g c =
    let n = c.args.step in
    let here = c.requires.in_lockstep in
    let told = c.in_ok-made.ensures in
    let is = c.if-made.true in
    let new = c.pass_in_lockstep.new in
    let own = c.sizes.ensures in
    let others = c.sizes-2.ensures in
    made_if _ _ _ is (record {
      state = next_state c.args.now.now.kept g.row.NW g.row.PAGES n c.timeline.result.now c.args.machine.now new.machine own.windows own.pages c.timeline.ensures here.state
          (chosen _ _ c.in_ok-made.made is told.made);
      others = next_state c.args.before.now.kept g.row.NW g.row.PAGES n c.timeline-2.result.now (lent c.args.machine.now c.args.other.now) (lent new.machine new.other)
          others.windows others.pages c.timeline-2.ensures here.others (chosen _ _ c.in_ok-made.made is told.others_made);
      mmu = told.units.1 ∙ here.mmu ∙ sym told.units.0;
    })

pub returns-then-made-clause-made : goal.returns-then-made-clause-made
returns-then-made-clause-made g c =
    made_if _ _ _ c.if-made.true
    (counted_step g.row.K c.args.step c.args.now.now c.count_step.new.self c.count_step.ensures c.sizes.ensures.some_steps c.requires.within (inl c.requires.recorded))

pub returns-then-made-clause-others_made : goal.returns-then-made-clause-others_made
returns-then-made-clause-others_made g c =
    made_if _ _ _ c.if-made.true
    (counted_step g.row.K c.args.step c.args.before.now c.count_step-then-made.new.self c.count_step-then-made.ensures c.sizes.ensures.some_steps c.requires.within
    (inl c.requires.others_recorded))
