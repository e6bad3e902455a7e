use Rattle.std.proofs.Common.{◌≡◌, ◌+◌}
use Rattle.sv8_notes.specs.PageRuns.{before}
use Rattle.sv8_notes.proofs.runs.find.Given as goal

abbrev pub invariant-loop-run : goal.invariant-loop-run
invariant-loop-run l = before l.run l.runs + l.offset ≡ l.at
