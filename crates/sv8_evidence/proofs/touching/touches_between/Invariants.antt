use Rattle.std.proofs.Common.{◌≤◌, ◌-◌}
use Rattle.sv8_evidence.specs.Touching.{NoneTouches}
use Rattle.sv8_evidence.proofs.touching.touches_between.Given as goal

abbrev pub invariant-loop-start : goal.invariant-loop-start
invariant-loop-start g l = record {
  behind : l.from ≤ l.start;
  none : NoneTouches l.kind g.row.NW g.row.PAGES g.row.K l.trace l.address l.count l.from l.start;
}

abbrev pub decreases-loop-start : goal.decreases-loop-start
decreases-loop-start g l = l.end - l.start
