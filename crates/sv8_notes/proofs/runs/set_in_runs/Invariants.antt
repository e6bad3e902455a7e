use Rattle.std.proofs.Common.{◌≡◌, ◌&&◌, ℕ, length, get_or, cond, leb, ltb}
use Rattle.sv8_notes.specs.PageRuns.{no_run, with_byte}
use Rattle.sv8_notes.proofs.runs.set_in_runs.Given as goal

abbrev pub invariant-loop-index : goal.invariant-loop-index
invariant-loop-index l = record {
  long : length l.runs.items ≡ length l.initial.runs.items;
  done : (j : ℕ) → get_or l.runs.items j no_run ≡ cond (leb l.first j && ltb j l.index) (with_byte l.address l.value (get_or l.initial.runs.items j no_run)) (get_or l.initial.runs.items j no_run);
}
