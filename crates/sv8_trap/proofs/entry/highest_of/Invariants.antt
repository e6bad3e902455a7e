use Rattle.std.proofs.Common.{◌≡◌, ◌≤◌}
use Rattle.sv8_trap.specs.Interrupt.{highest_from}
use Rattle.sv8_trap.proofs.entry.highest_of.Given as goal

abbrev pub invariant-loop-below : goal.invariant-loop-below
invariant-loop-below l = (l.highest ≡ highest_from l.below l.word) × (l.highest ≤ 15)
