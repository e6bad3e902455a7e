use Rattle.std.proofs.Common.{◌≡◌, ◌≤◌, ◌-◌}
use Rattle.sv8_cpu.specs.Work.{counted_by}
use Rattle.sv8_walks.specs.Together.{AreAlikeBetween, AreInLockstep}
use Rattle.sv8_bench.specs.Workbench.{checkpoints}
use Rattle.sv8_walks.proofs.lockstep.pass_both.Given as goal

abbrev pub invariant-loop-n : goal.invariant-loop-n
invariant-loop-n g l = record {
  begun : l.from ≤ l.n;
  within : l.n ≤ l.to;
  in_lockstep : AreInLockstep l.fn.now.kept l.fn.before.kept l.n l.machine l.other;
  idle : l.n ≤ l.from → (l.machine ≡ l.fn.machine) × (l.other ≡ l.fn.other);
  alike : AreAlikeBetween l.from l.n l.fn.before.kept l.fn.now.kept;
  kept : l.now.kept ≡ l.fn.now.kept;
  others_kept : l.before.kept ≡ l.fn.before.kept;
  recorded : checkpoints l.now ≡ checkpoints l.fn.now;
  others_recorded : checkpoints l.before ≡ checkpoints l.fn.before;
  counted : l.now.worked ≡ counted_by (l.n - l.from) l.fn.now.worked;
  others_counted : l.before.worked ≡ counted_by (l.n - l.from) l.fn.before.worked;
}

abbrev pub decreases-loop-n : goal.decreases-loop-n
decreases-loop-n g l = l.to - l.n
