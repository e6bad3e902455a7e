use Rattle.std.proofs.Common.{◌≤◌, ◌-◌}
use Rattle.sv8_evidence.specs.Showing.{NoneShows}
use Rattle.sv8_evidence.proofs.showing.shows_none.Given as goal

abbrev pub invariant-loop-start : goal.invariant-loop-start
invariant-loop-start g l = record {
  behind : l.from ≤ l.start;
  none : NoneShows l.sign g.row.K l.trace l.from l.start;
}

abbrev pub decreases-loop-start : goal.decreases-loop-start
decreases-loop-start g l = l.to - l.start
