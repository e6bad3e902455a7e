use Rattle.std.proofs.Common.{◌≡◌, ◌+◌, ◌++◌, true, length}
use Rattle.sv8_phys.specs.Memory.{ram_size}
use Rattle.sv8_search.specs.Search.{are_inside, olds_of, olds_count}
use Rattle.sv8_search.proofs.old_bytes.look_at_old.Given as goal

abbrev pub invariant-loop-rest : goal.invariant-loop-rest
invariant-loop-rest g l = record {
  inside : are_inside (ram_size g.row.PAGES) l.rest ≡ true;
  bytes : l.old.items ++ olds_of l.rest l.machine.memory.ram ≡ olds_of l.conditions l.machine.memory.ram;
  count : length l.old.items + olds_count l.rest ≡ olds_count l.conditions;
}

abbrev pub decreases-loop-rest : goal.decreases-loop-rest
decreases-loop-rest g l = length l.rest
