use Rattle.std.proofs.Common.{ℕ, ◌+◌, ◌-◌, ◌<◌, ◌≤◌}
use Rattle.sv8_search.specs.Search.{IsSearched}
use Rattle.sv8_search.specs.Comparing.{AreWalks, AreAlike}
use Rattle.sv8_search.proofs.compare.part_within.Given as goal

abbrev pub invariant-loop-now : goal.invariant-loop-now
invariant-loop-now g l = record {
  walks : AreWalks g.row.K l.now l.before l.both.walk.step l.both;
  low : l.from ≤ l.both.walk.step;
  high : l.both.walk.step ≤ l.to;
  searched : IsSearched g.row.K l.from l.both.walk.step l.fn.now l.now × IsSearched g.row.K l.from l.both.walk.step l.fn.before l.before;
  alike : (m : ℕ) → l.from ≤ m → m < l.both.walk.step + 1 → AreAlike l.fn.before.kept l.fn.now.kept m;
}

-- the steps that are left
abbrev pub decreases-loop-now : goal.decreases-loop-now
decreases-loop-now g l = l.to - l.both.walk.step
