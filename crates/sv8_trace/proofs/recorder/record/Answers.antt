use Rattle.std.proofs.Common.{◌≡◌, ◌≤◌, ap, refl, sym, arith, subst}
use Rattle.sv8_time.specs.Schedule.{bytes_below}
use Rattle.sv8_trace.specs.declared.interval.Interval.{Interval}
use Rattle.sv8_trace.specs.Recorder.{IsRecorded, so_far}
use Rattle.sv8_trace.proofs.Recorded.{recorded_none, one_more}
use Rattle.sv8_trace.proofs.recorder.record.Goals as goal

pub loop-offset-init : goal.loop-offset-init
loop-offset-init g c =
    record {
      state = refl;
      delivered = subst (λ x. c.args.machine.memory.taken ≤ bytes_below x c.args.timeline.now.inputs) (omega arith) c.requires.delivered;
      recorded = rw c.clear.ensures (recorded_none g.row.NW g.row.PAGES c.args.timeline.now c.args.n c.args.machine);
      within = omega arith;
      uncounted = refl;
      nothing_kept = λ quiet. ap (λ (i : Interval). i.kept) c.clear.ensures;
    }

pub loop-offset-preserved : goal.loop-offset-preserved
loop-offset-preserved g c =
    let inv = c.loop-offset.invariant in
    let made = c.in-Ok.ensures in
    let both = one_more g.row.NW g.row.PAGES c.args.timeline.now c.args.n c.args.machine c.loop-offset.machine c.record_step.new.machine c.loop-offset.offset (so_far c.loop-offset.interval) (so_far c.record_step.new.interval) inv.state made.state inv.recorded made.recorded in
    record {
      state = both.0;
      delivered = subst (λ x. c.record_step.new.machine.memory.taken ≤ bytes_below x c.args.timeline.now.inputs) (omega arith) made.delivered;
      recorded = both.1;
      within = omega (arith, c.loop-offset-test.true);
      uncounted = inv.uncounted;
      nothing_kept = made.nothing_kept;
    }

pub returns-clause-recorded : goal.returns-clause-recorded
returns-clause-recorded g c =
    let whole : c.loop-offset.offset ≡ c.args.count = omega (arith, c.loop-offset.invariant.within, c.loop-offset-test.false) in
    subst (λ (i : Interval). IsRecorded g.row.NW g.row.PAGES c.args.timeline.now c.args.n c.args.machine c.args.count i) (sym c.in_ok-copy.ensures)
    (subst (λ x. IsRecorded g.row.NW g.row.PAGES c.args.timeline.now c.args.n c.args.machine x (so_far c.loop-offset.interval)) whole c.loop-offset.invariant.recorded)
