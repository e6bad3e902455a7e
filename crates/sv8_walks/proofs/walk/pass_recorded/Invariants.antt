use Rattle.std.proofs.Common.{◌≡◌, ◌≤◌, ◌-◌}
use Rattle.sv8_cpu.specs.Work.{counted_by}
use Rattle.sv8_workbench.specs.Shown.{machine_state}
use Rattle.sv8_bench.specs.Workbench.{checkpoints}
use Rattle.sv8_walks.proofs.walk.pass_recorded.Given as goal

abbrev pub invariant-loop-n : goal.invariant-loop-n
invariant-loop-n g l = record {
  begun : l.from ≤ l.n;
  within : l.n ≤ l.to;
  state : l.machine ≡ machine_state l.fn.bench.kept l.n;
  kept : l.bench.kept ≡ l.fn.bench.kept;
  recorded : checkpoints l.bench ≡ checkpoints l.fn.bench;
  counted : l.bench.worked ≡ counted_by (l.n - l.from) l.fn.bench.worked;
}

abbrev pub decreases-loop-n : goal.decreases-loop-n
decreases-loop-n g l = l.to - l.n
