use Rattle.std.proofs.Common.{ℕ, ◌<◌, ◌≤◌, get_or}
use Rattle.sv8_notes.specs.declared.notes.WordNote.{WordNote}
use Rattle.sv8_notes.specs.Marks.{mark_of}
use Rattle.sv8_notes.proofs.mark_words.mark_all.Given as goal

abbrev pub invariant-loop-note : goal.invariant-loop-note
invariant-loop-note l = record {
  grows : (a : ℕ) → mark_of l.fn.marks a ≤ mark_of l.marks a;
  marked : (i : ℕ) (d : WordNote) → i < l.note-index → l.mark ≤ mark_of l.marks (get_or l.notes i d).address;
}
