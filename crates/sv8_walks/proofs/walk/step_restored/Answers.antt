use Rattle.std.proofs.Common.{◌∙◌, ◌+◌, sym, ap, arith}
use Rattle.sv8_workbench.specs.Shown.{machine_state}
use Rattle.sv8_bench.specs.Workbench.{Workbench}
use Rattle.sv8_walks.proofs.Together.{fed_by, next_state}
use Rattle.sv8_walks.proofs.Walking.{counted_step}
use Rattle.sv8_walks.proofs.walk.step_restored.Goals as goal
use Rattle.sv8_walks.proofs.walk.step_restored.Goals.{then-this-ne0+in_ok-watch, else-this-ne0+in_ok-pass}

pub watch-requires : goal.watch-requires
watch-requires g c =
    let kept = c.args.bench.now.kept in
    let fed = fed_by kept c.args.step c.timeline.result.now c.args.machine.now c.timeline.ensures c.requires.state in
    (omega arith, (rw c.timeline.ensures c.sizes.ensures.limit, fed))

pub pass-requires : goal.pass-requires
pass-requires g c =
    let kept = c.args.bench.now.kept in
    let timeline = c.timeline-else-this-ne0 in
    let fed = fed_by kept c.args.step timeline.result.now c.args.machine.now timeline.ensures c.requires.state in
    (omega arith, (rw timeline.ensures c.sizes.ensures.limit, fed))

pub returns-clause-state : goal.returns-clause-state
returns-clause-state g c =
    let n = c.args.step in
    let kept = c.args.bench.now.kept in
    let sizes = c.sizes.ensures in
    let stays = ap (λ (w : Workbench). machine_state w.kept (n + 1)) c.count_step.ensures in
    elim c.if-this-ne0.branch [
      | then-this-ne0+in_ok-watch w ↦ w.machine-is ∙ next_state kept g.row.NW g.row.PAGES n w.timeline.result.now c.args.machine.now w.watch.new.self sizes.windows sizes.pages
          w.timeline.ensures c.requires.state w.in_ok-watch.ensures.ok ∙ sym stays
      | else-this-ne0+in_ok-pass w ↦ w.machine-is ∙ next_state kept g.row.NW g.row.PAGES n w.timeline-else-this-ne0.result.now c.args.machine.now w.pass.new.self sizes.windows sizes.pages
          w.timeline-else-this-ne0.ensures c.requires.state w.in_ok-pass.ensures.ok ∙ sym stays
    ]

pub returns-clause-made : goal.returns-clause-made
returns-clause-made g c =
    counted_step g.row.K c.args.step c.args.bench.now c.count_step.new.self c.count_step.ensures c.sizes.ensures.some_steps c.requires.within c.requires.placed
