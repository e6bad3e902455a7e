use Rattle.std.proofs.Common.{◌≡◌, ◌-◌, ◌≤◌, ◌<◌, Some, length}
use Rattle.std.specs.List.{slice_get}
use Rattle.sv8_asm.specs.declared.marks.LocalLabel.{LocalLabel}
use Rattle.sv8_asm.proofs.marks.count_up_to.Given as goal

abbrev pub invariant-loop-low : goal.invariant-loop-low
invariant-loop-low l = record {
  order : l.low ≤ l.high;
  within : l.high ≤ length l.labels;
  above : (m : LocalLabel) → 0 < l.low → slice_get l.labels (l.low - 1) ≡ Some m → m.line ≤ l.line;
  behind : (m : LocalLabel) → slice_get l.labels l.high ≡ Some m → l.line < m.line;
}

abbrev pub decreases-loop-low : goal.decreases-loop-low
decreases-loop-low l = l.high - l.low
