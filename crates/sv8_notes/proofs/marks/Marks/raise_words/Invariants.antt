use Rattle.std.proofs.Common.{ℕ, ◌≤◌, ◌-◌}
use Rattle.sv8_notes.specs.Marks.{mark_of, AreMarkedFrom}
use Rattle.sv8_notes.proofs.marks.Marks.raise_words.Given as goal

abbrev pub invariant-loop-place : goal.invariant-loop-place
invariant-loop-place l = record {
  grows : (a : ℕ) → mark_of l.fn.self a ≤ mark_of l.self a;
  within : l.place ≤ l.count;
  raised : AreMarkedFrom l.self l.address l.mark l.place;
}

abbrev pub decreases-loop-place : goal.decreases-loop-place
decreases-loop-place l = l.count - l.place
