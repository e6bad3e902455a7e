use Rattle.std.proofs.Common.{◌≡◌, ◌/◌, map, take}
use Rattle.sv8_phys.specs.Memory.{page_of}
use Rattle.sv8_trace.proofs.points.Points.gather_pages.Given as goal

abbrev pub invariant-loop-index : goal.invariant-loop-index
invariant-loop-index g l = l.runs ≡ map (λ s. page_of s.memory.ram (l.address / 4096)) (take l.index l.self)
