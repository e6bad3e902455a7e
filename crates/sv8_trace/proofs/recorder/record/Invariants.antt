use Rattle.std.proofs.Common.{◌≡◌, ◌≤◌, ◌+◌, ◌-◌, [], true}
use Rattle.sv8_time.specs.Schedule.{bytes_below}
use Rattle.sv8_trace.specs.Recorder.{so_far, steps_on, IsRecorded}
use Rattle.sv8_trace.proofs.recorder.record.Given as goal

abbrev pub invariant-loop-offset : goal.invariant-loop-offset
invariant-loop-offset g l = record {
  state : l.machine ≡ steps_on g.row.NW g.row.PAGES l.timeline l.n l.initial.machine l.offset;
  delivered : l.machine.memory.taken ≤ bytes_below (l.n + l.offset) l.timeline.inputs;
  recorded : IsRecorded g.row.NW g.row.PAGES l.timeline l.n l.initial.machine l.offset (so_far l.interval);
  within : l.offset ≤ l.count;
  uncounted : l.work ≡ l.fn.work;
  nothing_kept : l.quiet ≡ true → l.interval.kept ≡ [];
}

abbrev pub decreases-loop-offset : goal.decreases-loop-offset
decreases-loop-offset g l = l.count - l.offset
