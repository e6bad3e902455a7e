use Rattle.std.proofs.Common.{◌≡◌, ◌∙◌, ◌+◌, ◌-◌, ◌*◌, ◌/◌, ◌<◌, ◌≤◌, length, refl, sym, ap, arith, subst}
use Rattle.sv8_cpu.specs.Recorded.{event_at}
use Rattle.sv8_cpu.specs.Work.{counted_by}
use Rattle.sv8_trace.specs.Recording.{Recording, recorded}
use Rattle.sv8_bench.specs.Workbench.{IsRecordOf}
use Rattle.sv8_bench.proofs.Queried.{counted_more, raised_more, room, all_recorded, all_counted, interval_more, interval_few, extended_keeps}
use Rattle.sv8_bench.proofs.bench.queries.record_up_to.Goals as goal

pub loop-alloc-init : goal.loop-alloc-init
loop-alloc-init g c =
    let none : length c.args.trace.now.intervals - length c.args.trace.now.intervals ≡ 0 = omega arith in
    let nothing : g.row.K * (length c.args.trace.now.intervals - length c.args.trace.now.intervals) ≡ 0 = rw none (omega arith) in
    record {
      fewest = omega arith;
      most = omega arith;
      delivered = c.requires.delivered;
      counted = rw nothing refl;
      run = λ start valid h. h;
    }

pub loop-alloc-smaller : goal.loop-alloc-smaller
loop-alloc-smaller g c =
    let longer : recorded g.row.K c.extend.new.self ≡ g.row.K * length c.loop-alloc.trace.intervals + g.row.K =
    ap (λ x. g.row.K * x) c.in_ok-extend.ensures.longer ∙ omega arith in
    omega (arith, longer, c.recorded.ensures.steps, c.loop-alloc-test.true, c.requires.some_steps)

pub loop-alloc-preserved : goal.loop-alloc-preserved
loop-alloc-preserved g c =
    let k = g.row.K in
    let old = length c.args.trace.now.intervals in
    let now = length c.loop-alloc.trace.intervals in
    let inv = c.loop-alloc.invariant in
    let longer = c.in_ok-extend.ensures.longer in
    let fits : k * now + k ≤ c.args.step = omega (arith, c.recorded.ensures.steps, c.loop-alloc-test.true) in
    let next = room k now c.args.step c.requires.some_steps fits in
    record {
      fewest = omega (arith, inv.fewest, longer);
      most = omega (arith, next, longer);
      delivered = c.in_ok-extend.ensures.delivered;
      counted = counted_more k (k * (now - old)) (k * (length c.extend.new.self.intervals - old)) c.args.work.now c.loop-alloc.work c.extend.new.work inv.counted c.in_ok-extend.ensures.counted
          (interval_more k old now inv.fewest ∙ ap (λ x. k * (x - old)) (sym longer));
      run = λ start valid h.
          extended_keeps g.row.NW g.row.PAGES k c.args.timeline.now c.loop-alloc.trace c.extend.new.self c.requires.some_steps c.in_ok-extend.ensures.extended start valid (inv.run start valid h);
    }

pub returns-in_err-extend-clause-raised : goal.returns-in_err-extend-clause-raised
returns-in_err-extend-clause-raised g c =
    let k = g.row.K in
    let old = length c.args.trace.now.intervals in
    let now = length c.loop-alloc.trace.intervals in
    let inv = c.loop-alloc.invariant in
    let fits : k * now + k ≤ c.args.step = omega (arith, c.recorded.ensures.steps, c.loop-alloc-test.true) in
    raised_more (k * (now - old)) k (k * (c.args.step / k - old)) c.args.work.now c.loop-alloc.work c.extend.new.work inv.counted c.extend.ensures.raised
    (interval_few k old now c.args.step c.requires.some_steps inv.fewest fits)

pub returns-clause-recorded : goal.returns-clause-recorded
returns-clause-recorded g c =
    let now = length c.loop-alloc.trace.intervals in
    let over : c.args.step < g.row.K * now + g.row.K = omega (arith, c.recorded.ensures.steps, c.loop-alloc-test.false) in
    all_recorded g.row.K (length c.args.trace.now.intervals) now c.args.step c.requires.some_steps c.loop-alloc.invariant.fewest c.loop-alloc.invariant.most over

pub returns-clause-counted : goal.returns-clause-counted
returns-clause-counted g c =
    let now = length c.loop-alloc.trace.intervals in
    let over : c.args.step < g.row.K * now + g.row.K = omega (arith, c.recorded.ensures.steps, c.loop-alloc-test.false) in
    c.loop-alloc.invariant.counted
    ∙ ap (λ n. counted_by n c.args.work.now) (all_counted g.row.K (length c.args.trace.now.intervals) now c.args.step c.requires.some_steps c.loop-alloc.invariant.fewest c.loop-alloc.invariant.most over)

pub returns-in_err-extend-clause-run : goal.returns-in_err-extend-clause-run
returns-in_err-extend-clause-run g c = λ start valid h.
    subst
    (λ (r : Recording).
    IsRecordOf g.row.NW g.row.PAGES g.row.K (record { start = start; events = event_at c.args.timeline.now; valid = valid }) r)
    (sym c.in_err-extend.ensures.refused) (c.loop-alloc.invariant.run start valid h)

pub returns-clause-raised : goal.returns-clause-raised
returns-clause-raised g c =
    let now = length c.loop-alloc.trace.intervals in
    let over : c.args.step < g.row.K * now + g.row.K = omega (arith, c.recorded.ensures.steps, c.loop-alloc-test.false) in
    let all = all_counted g.row.K (length c.args.trace.now.intervals) now c.args.step c.requires.some_steps c.loop-alloc.invariant.fewest c.loop-alloc.invariant.most over in
    (g.row.K * (now - length c.args.trace.now.intervals), omega (arith, all), c.loop-alloc.invariant.counted)
