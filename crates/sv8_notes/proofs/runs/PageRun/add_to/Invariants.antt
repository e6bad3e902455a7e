use Rattle.std.proofs.Common.{◌≡◌, ◌++◌, replicate}
use Rattle.sv8_notes.proofs.runs.PageRun.add_to.Given as goal

abbrev pub invariant-loop-other : goal.invariant-loop-other
invariant-loop-other l = l.pages.items ≡ l.initial.pages.items ++ replicate l._other l.self.page
