use Rattle.std.proofs.Common.{◌≡◌, ◌-◌, ◌++◌, ◌≤◌, ◌+◌, length, map}
use Rattle.sv8_workbench.specs.Shown.{machine_state}
use Rattle.sv8_walks.specs.Walks.{IsWalk}
use Rattle.sv8_search.specs.Plans.{IsPlan}
use Rattle.sv8_search.specs.Search.{olds_of, olds_count, found_at, is_wanted, rising, looked_to, IsSearched}
use Rattle.sv8_search.proofs.search.search_up.Given as goal

abbrev pub invariant-loop-bench : goal.invariant-loop-bench
invariant-loop-bench g l = record {
  walk : IsWalk g.row.K l.bench l.walk;
  begun : l.from ≤ l.walk.step;
  below : l.walk.step ≤ l.to;
  searched : IsSearched g.row.K l.from l.walk.step l.fn.bench l.bench;
  bytes : l.room.old.items ≡ olds_of l.conditions (machine_state l.fn.bench.kept l.walk.step).memory.ram;
  count : length l.room.old.items ≡ olds_count l.conditions;
  plan : IsPlan g.row.K l.bench l.conditions l.room.plan.start l.room.plan.flags.items;
  planned : l.room.plan.start ≤ l.walk.step;
  low : l.room.plan.start + length l.room.plan.flags.items ≤ 1000000;
  found : l.found.items ++ map (found_at l.fn.bench.kept) (rising (is_wanted l.fn.bench.kept l.conditions) l.walk.step (l.to - l.walk.step) l.left)
      ≡ l.fn.found.items ++ map (found_at l.fn.bench.kept) (rising (is_wanted l.fn.bench.kept l.conditions) l.from (l.to - l.from) l.most);
  looked : looked_to (is_wanted l.fn.bench.kept l.conditions) l.walk.step (l.to - l.walk.step) l.left ≡ looked_to (is_wanted l.fn.bench.kept l.conditions) l.from (l.to - l.from) l.most;
}

-- the steps that are left
abbrev pub decreases-loop-bench : goal.decreases-loop-bench
decreases-loop-bench g l = l.to - l.walk.step
