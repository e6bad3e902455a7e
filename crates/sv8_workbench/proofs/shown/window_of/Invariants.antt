use Rattle.std.proofs.Common.{◌≡◌, ◌<◌, ℕ, get_or, length}
use Rattle.sv8_regs.specs.Ring.{read}
use Rattle.sv8_workbench.proofs.shown.window_of.Given as goal

-- the registers below the present number are in place
abbrev pub invariant-loop-number : goal.invariant-loop-number
invariant-loop-number g l = (length l.shown ≡ 32) × ((k : ℕ) → k < l.number → get_or l.shown k 0 ≡ read g.row.NW l.registers k)
