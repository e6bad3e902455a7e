use Rattle.std.proofs.Common.{◌≡◌, ◌+◌, ◌≤◌, length}
use Rattle.sv8_difference.specs.Difference.{lines, difference, difference_from}
use Rattle.sv8_difference.proofs.first_difference.Given as goal

abbrev pub invariant-loop-due_rest : goal.invariant-loop-due_rest
invariant-loop-due_rest l = (difference_from l.line (lines l.due_rest) (lines l.came_rest) ≡ difference l.due l.came) × (l.line + length l.due_rest ≤ 1 + length l.due)

abbrev pub decreases-loop-due_rest : goal.decreases-loop-due_rest
decreases-loop-due_rest l = length l.due_rest
