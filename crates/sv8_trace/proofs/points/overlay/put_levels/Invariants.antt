use Rattle.std.proofs.Common.{◌≡◌, ◌+◌, ◌≤◌, length}
use Rattle.sv8_trace.specs.Columns.{levels_from}
use Rattle.sv8_trace.proofs.points.overlay.put_levels.Given as goal

abbrev pub invariant-loop-rest : goal.invariant-loop-rest
invariant-loop-rest g l = (1 ≤ l.level) × (l.level + length l.rest ≡ 16) × (levels_from l.level l.rest l.index l.machine ≡ levels_from 1 l.fn.columns l.index l.fn.machine)

abbrev pub decreases-loop-rest : goal.decreases-loop-rest
decreases-loop-rest g l = length l.rest
