use Rattle.std.proofs.Common.{◌≡◌, ◌≤◌, ◌<◌, ◌-◌, ℕ, false}
use Rattle.sv8_notes.specs.Sought.{is_met}
use Rattle.sv8_trace.specs.Recording.{trace_of}
use Rattle.sv8_trace.proofs.trace.Trace.first_between.Given as goal

abbrev pub invariant-loop-start : goal.invariant-loop-start
invariant-loop-start g l = record {
  behind : l.from ≤ l.start;
  none : (n : ℕ) → l.from ≤ n → n < l.start → is_met l.sought ((trace_of g.row.NW g.row.PAGES g.row.K l.self).notes n) ≡ false;
}

abbrev pub decreases-loop-start : goal.decreases-loop-start
decreases-loop-start g l = l.end - l.start
