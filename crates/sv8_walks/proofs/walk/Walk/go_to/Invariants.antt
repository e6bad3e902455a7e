use Rattle.std.proofs.Common.{◌≡◌, ◌-◌, ◌≤◌}
use Rattle.sv8_cpu.specs.Work.{counted_by}
use Rattle.sv8_walks.specs.Walks.{IsWalk}
use Rattle.sv8_bench.specs.Workbench.{checkpoints}
use Rattle.sv8_walks.proofs.walk.Walk.go_to.Given as goal

abbrev pub invariant-loop-self : goal.invariant-loop-self
invariant-loop-self g l = record {
  walk : IsWalk g.row.K l.bench l.self;
  begun : l.fn.self.step ≤ l.self.step;
  below : l.self.step ≤ l.step;
  kept : l.bench.kept ≡ l.fn.bench.kept;
  recorded : checkpoints l.bench ≡ checkpoints l.fn.bench;
  counted : l.bench.worked ≡ counted_by (l.self.step - l.fn.self.step) l.fn.bench.worked;
}

-- the steps that are left
abbrev pub decreases-loop-self : goal.decreases-loop-self
decreases-loop-self g l = l.step - l.self.step
