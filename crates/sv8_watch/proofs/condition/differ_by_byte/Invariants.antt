use Rattle.std.proofs.Common.{◌≡◌, ◌≤◌, ◌+◌, length}
use Rattle.sv8_phys.specs.Memory.{ram_size}
use Rattle.sv8_watch.specs.Conditions.{differ_from}
use Rattle.sv8_watch.proofs.condition.differ_by_byte.Given as goal

abbrev pub invariant-loop-rest : goal.invariant-loop-rest
invariant-loop-rest g l = record {
  within : l.at + length l.rest ≤ ram_size g.row.PAGES;
  left : differ_from l.rest l.at l.machine.memory.ram ≡ differ_from l.fn.old l.address l.machine.memory.ram;
}

abbrev pub decreases-loop-rest : goal.decreases-loop-rest
decreases-loop-rest g l = length l.rest
