use Rattle.std.proofs.Common.{◌≡◌, ◌-◌, ◌++◌, ◌/◌, ◌≤◌, map, max}
use Rattle.sv8_bench.specs.Workbench.{checkpoints}
use Rattle.sv8_search.specs.Search.{found_at, is_wanted, falling, sought_to}
use Rattle.sv8_search.proofs.Sought.{IsDown}
use Rattle.sv8_search.proofs.descent.search_down.Given as goal

abbrev pub invariant-loop-end : goal.invariant-loop-end
invariant-loop-end g l = record {
  low : l.to ≤ l.end;
  high : l.end ≤ l.from;
  kept : l.bench.kept ≡ l.fn.bench.kept;
  fewest : checkpoints l.fn.bench ≤ checkpoints l.bench;
  most : checkpoints l.bench ≤ max (checkpoints l.fn.bench) (l.from / g.row.K);
  down : IsDown g.row.K l.from l.to (checkpoints l.fn.bench) l.fn.bench.worked l.end (checkpoints l.bench) l.bench.worked;
  found : l.found.items ++ map (found_at l.fn.bench.kept) (falling (is_wanted l.fn.bench.kept l.conditions) l.to (l.end - l.to) l.left)
      ≡ l.fn.found.items ++ map (found_at l.fn.bench.kept) (falling (is_wanted l.fn.bench.kept l.conditions) l.to (l.from - l.to) l.most);
  sought : sought_to (is_wanted l.fn.bench.kept l.conditions) l.to (l.end - l.to) l.left / g.row.K
      ≡ sought_to (is_wanted l.fn.bench.kept l.conditions) l.to (l.from - l.to) l.most / g.row.K;
}

-- the steps that are left
abbrev pub decreases-loop-end : goal.decreases-loop-end
decreases-loop-end g l = l.end
