use Rattle.std.proofs.Common.{◌≡◌, ◌+◌, ◌<◌, ◌≤◌, ℕ, slice_index}
use Rattle.sv8_regs.proofs.words.copy_words.Given as goal

abbrev pub invariant-loop-k : goal.invariant-loop-k
invariant-loop-k l = record {
  copied : (j : ℕ) → j < l.k → slice_index l.to (l.write_at + j) ≡ slice_index l.from (l.read_at + j);
  before : (j : ℕ) → j < l.write_at → slice_index l.to j ≡ slice_index l.initial.to j;
  after : (j : ℕ) → l.write_at + l.k ≤ j → slice_index l.to j ≡ slice_index l.initial.to j;
}
