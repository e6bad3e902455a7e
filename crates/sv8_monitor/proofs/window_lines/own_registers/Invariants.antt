use Rattle.std.proofs.Common.{◌≡◌, ◌+◌, ◌<◌, ℕ, get_or, length}
use Rattle.sv8_regs.specs.Ring.{read}
use Rattle.sv8_monitor.proofs.window_lines.own_registers.Given as goal

-- the registers below the present one are in place
abbrev pub invariant-loop-place : goal.invariant-loop-place
invariant-loop-place g l = (length l.own ≡ 16) × ((k : ℕ) → k < l.place → get_or l.own k 0 ≡ read g.row.NW l.registers (8 + k))
