use Rattle.std.proofs.Common.{◌≡◌, ◌+◌, length}
use Rattle.sv8_difference.specs.Difference.{line_end}
use Rattle.sv8_difference.proofs.Lines.{end_by_bytes}
use Rattle.sv8_difference.proofs.line_end.Given as goal

abbrev pub invariant-loop-rest : goal.invariant-loop-rest
invariant-loop-rest l = (l.end + end_by_bytes l.rest ≡ line_end l.text) × (l.end + length l.rest ≡ length l.text)

abbrev pub decreases-loop-rest : goal.decreases-loop-rest
decreases-loop-rest l = length l.rest
