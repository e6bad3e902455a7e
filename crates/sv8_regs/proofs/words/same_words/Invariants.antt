use Rattle.std.proofs.Common.{◌≡◌, ◌≢◌, ◌<◌, ℕ, true, false, slice_index}
use Rattle.sv8_regs.proofs.words.same_words.Given as goal

abbrev pub invariant-loop-k : goal.invariant-loop-k
invariant-loop-k g l = record {
  alike : l.same ≡ true → (j : ℕ) → j < l.k → slice_index l.one j ≡ slice_index l.other j;
  unlike : l.same ≡ false → l.one ≢ l.other;
}
