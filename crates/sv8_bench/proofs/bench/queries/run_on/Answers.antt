use Rattle.std.proofs.Common.{◌≡◌, ◌∙◌, ◌+◌, ◌-◌, refl, arith}
use Rattle.sv8_bench.proofs.Queried.{steps_more, counted_more}
use Rattle.sv8_bench.proofs.bench.queries.run_on.Goals as goal

pub loop-n-init : goal.loop-n-init
loop-n-init g c =
    let none : c.args.from - c.args.from ≡ 0 = omega arith in
    record { state = rw none refl; delivered = c.requires.delivered; counted = rw none refl }

pub loop-n-preserved : goal.loop-n-preserved
loop-n-preserved g c =
    let inv = c.loop-n.invariant in
    let n = c.loop-n.n in
    let from = c.args.from in
    let later : n - from + 1 ≡ n + 1 - from = omega (arith, c.loop-n.auto.n) in
    record {
      state = steps_more g.row.NW g.row.PAGES c.args.timeline.now from n c.args.machine c.loop-n.machine c.in_ok-machine.machine c.loop-n.auto.n inv.state c.in_ok-machine.ensures.ok;
      delivered = c.in_ok-machine.ensures.delivered;
      counted = counted_more 1 (n - from) (n + 1 - from) c.args.work.now c.loop-n.work c.step.new.work inv.counted c.in_ok-machine.ensures.counted later;
    }

pub returns-in_err-machine-clause-raised : goal.returns-in_err-machine-clause-raised
returns-in_err-machine-clause-raised g c =
    (c.loop-n.n - c.args.from, omega (arith, c.loop-n-test.true), c.in_err-machine.ensures.uncounted ∙ c.loop-n.invariant.counted)
