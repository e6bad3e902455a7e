use Rattle.std.proofs.Common.{◌≡◌, ◌-◌, ◌≤◌}
use Rattle.sv8_time.specs.Schedule.{bytes_below}
use Rattle.sv8_trace.specs.Recorder.{steps_on}
use Rattle.sv8_cpu.specs.Work.{counted_by}
use Rattle.sv8_bench.proofs.bench.queries.run_on.Given as goal

abbrev pub invariant-loop-n : goal.invariant-loop-n
invariant-loop-n g l = record {
  state : l.machine ≡ steps_on g.row.NW g.row.PAGES l.timeline l.from l.fn.machine (l.n - l.from);
  delivered : l.machine.memory.taken ≤ bytes_below l.n l.timeline.inputs;
  counted : l.work ≡ counted_by (l.n - l.from) l.fn.work;
}
