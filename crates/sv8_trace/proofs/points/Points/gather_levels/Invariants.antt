use Rattle.std.proofs.Common.{◌≡◌, false, get_or, map, take}
use Rattle.sv8_trace.proofs.points.Points.gather_levels.Given as goal

abbrev pub invariant-loop-index : goal.invariant-loop-index
invariant-loop-index g l = l.column ≡ map (λ s. get_or s.memory.pending l.level false) (take l.index l.self)
