use Rattle.std.proofs.Common.{◌≡◌, ◌≢◌, ◌<◌, ℕ, [], true, false, get_or}
use Rattle.sv8_regs.specs.Ring.{flat}
use Rattle.sv8_regs.proofs.words.same_rows.Given as goal

abbrev pub invariant-loop-window : goal.invariant-loop-window
invariant-loop-window g l = record {
  alike : l.same ≡ true → (j : ℕ) → j < l.window → get_or l.one j [] ≡ get_or l.other j [];
  unlike : l.same ≡ false → flat g.row.NW l.one ≢ flat g.row.NW l.other;
}
