use Rattle.std.proofs.Common.{ℕ, ◌≡◌, ◌≤◌, length}
use Rattle.sv8_notes.specs.Marks.{mark_of}
use Rattle.sv8_notes.specs.WordRuns.{AreMarkedBelow}
use Rattle.sv8_notes.proofs.mark_words.mark_runs.Given as goal

abbrev pub invariant-loop-index : goal.invariant-loop-index
invariant-loop-index l = record {
  grows : (a : ℕ) → mark_of l.fn.marks a ≤ mark_of l.marks a;
  marked : AreMarkedBelow l.marks l.mark l.runs l.index;
  places : length l.remembered ≡ 16;
  remembered : AreMarkedBelow l.marks l.mark l.remembered 16;
}
