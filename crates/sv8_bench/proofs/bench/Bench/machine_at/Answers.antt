use Rattle.std.proofs.Common.{◌∙◌, ◌-◌, ◌*◌, ◌/◌, ◌%◌, length, refl, ap, arith, subst}
use Rattle.sv8_history.specs.Growing.{restored}
use Rattle.sv8_workbench.specs.Kept.{Kept}
use Rattle.sv8_workbench.specs.Shown.{machine_state}
use Rattle.sv8_bench.specs.Workbench.{Workbench, IsAnswered, IsGivenUp}
use Rattle.sv8_bench.proofs.Queried.{with_record, run_further, last_fed, restored_fed, restored_leads, restored_at, query_steps, query_extends, counted_more, raised_more, given_up}
use Rattle.sv8_bench.proofs.bench.Bench.machine_at.Goals as goal

pub record_up_to-requires : goal.record_up_to-requires
record_up_to-requires g c =
    let inv = c.self.invariant in
    let kept : Kept = record { windows = g.row.NW; pages = g.row.PAGES; source = c.self.inside.source; timeline = c.self.inside.timeline } in
    (omega arith, (inv.4, (inv.5, (c.requires.step, (inv.7, last_fed g.row.K inv.4 kept c.self.inside.trace c.self.inside.work inv.8)))))

pub invariant_of-self : goal.invariant_of-self
invariant_of-self g c =
    let inv = c.self.invariant in
    let kept : Kept = record { windows = g.row.NW; pages = g.row.PAGES; source = c.self.inside.source; timeline = c.self.inside.timeline } in
    let run = run_further g.row.K inv.4 kept c.self.inside.trace c.record_up_to.new.trace c.self.inside.work c.record_up_to.new.work inv.8 c.record_up_to.ensures.run in
    (inv.0, inv.1, inv.2, inv.3, inv.4, inv.5, inv.6, inv.7, run)

pub returns-in_err-record_up_to-clause-given_up : goal.returns-in_err-record_up_to-clause-given_up
returns-in_err-record_up_to-clause-given_up g c =
    let k = g.row.K in
    let kept : Kept = record { windows = g.row.NW; pages = g.row.PAGES; source = c.self.inside.source; timeline = c.self.inside.timeline } in
    subst
    (λ (w : Workbench). IsGivenUp k c.args.step w (with_record kept c.record_up_to.new.trace c.record_up_to.new.work)) c.self.view_is
    (given_up k c.args.step kept c.self.inside.trace c.record_up_to.new.trace c.self.inside.work c.record_up_to.new.work _ c.record_up_to.ensures.fewest c.record_up_to.ensures.most
    c.record_up_to.ensures.raised (query_extends k (length c.self.inside.trace.intervals) c.args.step))

pub invariant_of-self-in_err-machine : goal.invariant_of-self-in_err-machine
invariant_of-self-in_err-machine g c =
    let inv = c.self.invariant in
    let kept : Kept = record { windows = g.row.NW; pages = g.row.PAGES; source = c.self.inside.source; timeline = c.self.inside.timeline } in
    let run = run_further g.row.K inv.4 kept c.self.inside.trace c.record_up_to.new.trace c.self.inside.work c.record_up_to.new.work inv.8 c.record_up_to.ensures.run in
    (inv.0, inv.1, inv.2, inv.3, inv.4, inv.5, inv.6, inv.7, run)

pub returns-in_err-machine-clause-given_up : goal.returns-in_err-machine-clause-given_up
returns-in_err-machine-clause-given_up g c =
    let k = g.row.K in
    let kept : Kept = record { windows = g.row.NW; pages = g.row.PAGES; source = c.self.inside.source; timeline = c.self.inside.timeline } in
    subst
    (λ (w : Workbench). IsGivenUp k c.args.step w (with_record kept c.record_up_to.new.trace c.record_up_to.new.work)) c.self.view_is
    (given_up k c.args.step kept c.self.inside.trace c.record_up_to.new.trace c.self.inside.work c.record_up_to.new.work _ c.record_up_to.ensures.fewest c.record_up_to.ensures.most
    c.record_up_to.ensures.raised (query_extends k (length c.self.inside.trace.intervals) c.args.step))

pub run_on-requires : goal.run_on-requires
run_on-requires g c =
    let inv = c.self.invariant in
    let kept : Kept = record { windows = g.row.NW; pages = g.row.PAGES; source = c.self.inside.source; timeline = c.self.inside.timeline } in
    let run = run_further g.row.K inv.4 kept c.self.inside.trace c.record_up_to.new.trace c.self.inside.work c.record_up_to.new.work inv.8 c.record_up_to.ensures.run in
    let fed = restored_fed g.row.K inv.4 kept c.record_up_to.new.trace c.record_up_to.new.work run c.args.step (c.args.step - c.args.step % g.row.K) c.in_ok-machine.machine
    (restored_at g.row.K (length c.self.inside.trace.intervals) (length c.record_up_to.new.trace.intervals) c.args.step inv.4 c.in_ok-record_up_to.ensures.recorded) c.in_ok-machine.ensures in
    (omega arith, (inv.1, (inv.3, (omega arith, (inv.7, fed)))))

pub invariant_of-self-in_err-machine-2 : goal.invariant_of-self-in_err-machine-2
invariant_of-self-in_err-machine-2 g c =
    let inv = c.self.invariant in
    let kept : Kept = record { windows = g.row.NW; pages = g.row.PAGES; source = c.self.inside.source; timeline = c.self.inside.timeline } in
    let run = run_further g.row.K inv.4 kept c.self.inside.trace c.record_up_to.new.trace c.self.inside.work c.run_on.new.work inv.8 c.record_up_to.ensures.run in
    (inv.0, inv.1, inv.2, inv.3, inv.4, inv.5, inv.6, inv.7, run)

pub returns-in_err-machine-2-clause-given_up : goal.returns-in_err-machine-2-clause-given_up
returns-in_err-machine-2-clause-given_up g c =
    let k = g.row.K in
    let inv = c.self.invariant in
    let old = length c.self.inside.trace.intervals in
    let step = c.args.step in
    let all = query_steps k old (length c.record_up_to.new.trace.intervals) step inv.4 c.in_ok-record_up_to.ensures.recorded in
    let kept : Kept = record { windows = g.row.NW; pages = g.row.PAGES; source = c.self.inside.source; timeline = c.self.inside.timeline } in
    subst
    (λ (w : Workbench). IsGivenUp k c.args.step w (with_record kept c.record_up_to.new.trace c.run_on.new.work)) c.self.view_is
    (given_up k c.args.step kept c.self.inside.trace c.record_up_to.new.trace c.self.inside.work c.run_on.new.work (step - restored k old step) c.record_up_to.ensures.fewest
    c.record_up_to.ensures.most
    (raised_more (k * (step / k - old)) (step - (step - step % k)) (step - restored k old step) c.self.inside.work c.record_up_to.new.work c.run_on.new.work c.in_ok-record_up_to.ensures.counted
    c.run_on.ensures.raised (omega (arith, all))) (omega arith))

pub invariant_of-self-2 : goal.invariant_of-self-2
invariant_of-self-2 g c =
    let inv = c.self.invariant in
    let kept : Kept = record { windows = g.row.NW; pages = g.row.PAGES; source = c.self.inside.source; timeline = c.self.inside.timeline } in
    let run = run_further g.row.K inv.4 kept c.self.inside.trace c.record_up_to.new.trace c.self.inside.work c.run_on.new.work inv.8 c.record_up_to.ensures.run in
    (inv.0, inv.1, inv.2, inv.3, inv.4, inv.5, inv.6, inv.7, run)

pub returns-clause-state : goal.returns-clause-state
returns-clause-state g c =
    let k = g.row.K in
    let inv = c.self.invariant in
    let kept : Kept = record { windows = g.row.NW; pages = g.row.PAGES; source = c.self.inside.source; timeline = c.self.inside.timeline } in
    let run = run_further k inv.4 kept c.self.inside.trace c.record_up_to.new.trace c.self.inside.work c.record_up_to.new.work inv.8 c.record_up_to.ensures.run in
    restored_leads k inv.4 kept c.record_up_to.new.trace c.record_up_to.new.work run c.args.step (c.args.step - c.args.step % k) c.in_ok-machine.machine c.in_ok-machine-2.machine
    (restored_at k (length c.self.inside.trace.intervals) (length c.record_up_to.new.trace.intervals) c.args.step inv.4 c.in_ok-record_up_to.ensures.recorded) c.in_ok-machine.ensures
    c.in_ok-machine-2.ensures.state
    ∙ ap (λ (w : Workbench). machine_state w.kept c.args.step) c.self.view_is

pub returns-clause-answered : goal.returns-clause-answered
returns-clause-answered g c =
    let k = g.row.K in
    let inv = c.self.invariant in
    let old = length c.self.inside.trace.intervals in
    let step = c.args.step in
    let all = query_steps k old (length c.record_up_to.new.trace.intervals) step inv.4 c.in_ok-record_up_to.ensures.recorded in
    let kept : Kept = record { windows = g.row.NW; pages = g.row.PAGES; source = c.self.inside.source; timeline = c.self.inside.timeline } in
    subst
    (λ (w : Workbench). IsAnswered k c.args.step w (with_record kept c.record_up_to.new.trace c.run_on.new.work)) c.self.view_is
    (record {
      kept = refl;
      recorded = c.in_ok-record_up_to.ensures.recorded;
      worked = counted_more (step - (step - step % k)) (k * (step / k - old)) (step - restored k old step) c.self.inside.work c.record_up_to.new.work c.run_on.new.work
          c.in_ok-record_up_to.ensures.counted c.in_ok-machine-2.ensures.counted all;
    })

pub returns-clause-given_up : goal.returns-clause-given_up
returns-clause-given_up g c =
    let k = g.row.K in
    let inv = c.self.invariant in
    let old = length c.self.inside.trace.intervals in
    let step = c.args.step in
    let all = query_steps k old (length c.record_up_to.new.trace.intervals) step inv.4 c.in_ok-record_up_to.ensures.recorded in
    let kept : Kept = record { windows = g.row.NW; pages = g.row.PAGES; source = c.self.inside.source; timeline = c.self.inside.timeline } in
    subst
    (λ (w : Workbench). IsGivenUp k c.args.step w (with_record kept c.record_up_to.new.trace c.run_on.new.work)) c.self.view_is
    (given_up k c.args.step kept c.self.inside.trace c.record_up_to.new.trace c.self.inside.work c.run_on.new.work (step - restored k old step) c.record_up_to.ensures.fewest
    c.record_up_to.ensures.most
    (raised_more (k * (step / k - old)) (step - (step - step % k)) (step - restored k old step) c.self.inside.work c.record_up_to.new.work c.run_on.new.work c.in_ok-record_up_to.ensures.counted
    c.run_on.ensures.raised (omega (arith, all))) (omega arith))
