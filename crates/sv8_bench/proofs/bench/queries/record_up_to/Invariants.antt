use Rattle.std.proofs.Common.{◌≡◌, ◌-◌, ◌*◌, ◌/◌, ◌≤◌, max, length}
use Rattle.sv8_time.specs.Schedule.{bytes_below}
use Rattle.sv8_cpu.specs.State.{State}
use Rattle.sv8_cpu.specs.Recorded.{event_at, AreEvents}
use Rattle.sv8_cpu.specs.Work.{counted_by}
use Rattle.sv8_trace.specs.Recording.{last_point, recorded}
use Rattle.sv8_bench.specs.Workbench.{IsRecordOf}
use Rattle.sv8_bench.proofs.bench.queries.record_up_to.Given as goal

abbrev pub invariant-loop-alloc : goal.invariant-loop-alloc
invariant-loop-alloc g l = record {
  fewest : length l.fn.trace.intervals ≤ length l.trace.intervals;
  most : length l.trace.intervals ≤ max (length l.fn.trace.intervals) (l.step / g.row.K);
  delivered : (last_point l.trace).memory.taken ≤ bytes_below (recorded g.row.K l.trace) l.timeline.inputs;
  counted : l.work ≡ counted_by (g.row.K * (length l.trace.intervals - length l.fn.trace.intervals)) l.fn.work;
  run : (start : State) (valid : AreEvents g.row.PAGES l.timeline)
      → IsRecordOf g.row.NW g.row.PAGES g.row.K (record { start = start; events = event_at l.timeline; valid = valid }) l.fn.trace
      → IsRecordOf g.row.NW g.row.PAGES g.row.K (record { start = start; events = event_at l.timeline; valid = valid }) l.trace;
}

-- the steps that are left
abbrev pub decreases-loop-alloc : goal.decreases-loop-alloc
decreases-loop-alloc g l = l.step - recorded g.row.K l.trace
