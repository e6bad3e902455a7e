use Rattle.std.proofs.Common.{ℕ, ◌≡◌, ◌≤◌, ◌<◌, get_or, length}
use Rattle.sv8_notes.proofs.marks.raise_between.Given as goal

abbrev pub invariant-loop-place : goal.invariant-loop-place
invariant-loop-place l = record {
  long : length l.numbers ≡ length l.fn.numbers;
  grows : (i : ℕ) → get_or l.fn.numbers i 0 ≤ get_or l.numbers i 0;
  raised : (i : ℕ) → l.from ≤ i → i < l.place → l.number ≤ get_or l.numbers i 0;
}
