use Rattle.std.proofs.Common.{◌≡◌, ◌%◌, ◌++◌}
use Rattle.sv8_phys.specs.Memory.{ram_size}
use Rattle.sv8_search.specs.Comparing.{differences}
use Rattle.sv8_search.proofs.Differing.{differences_from}
use Rattle.sv8_search.proofs.compare.differences.Given as goal

abbrev pub invariant-loop-left : goal.invariant-loop-left
invariant-loop-left g l = record {
  aligned : l.from % 4 ≡ 0;
  all : l.found.items ++ differences_from l.fn.before.memory.ram l.fn.now.memory.ram (ram_size g.row.PAGES) l.from l.left
      ≡ differences (ram_size g.row.PAGES) l.fn.before.memory.ram l.fn.now.memory.ram l.fn.most;
}

abbrev pub decreases-loop-left : goal.decreases-loop-left
decreases-loop-left g l = l.left
