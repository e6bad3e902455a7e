use Rattle.std.proofs.Common.{◌≡◌}
use Rattle.sv8_notes.specs.PageRuns.{expand}
use Rattle.sv8_notes.proofs.runs.PageRuns.into_column.Given as goal

abbrev pub invariant-loop-run : goal.invariant-loop-run
invariant-loop-run l = l.pages.items ≡ expand l.yielded
