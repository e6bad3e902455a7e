use Rattle.std.proofs.Common.{◌≡◌, ◌-◌, ◌%◌}
use Rattle.sv8_phys.specs.Memory.{ram_size}
use Rattle.sv8_phys.specs.Differences.{next_difference}
use Rattle.sv8_phys.proofs.ram.Ram.next_difference.Given as goal

abbrev pub invariant-loop-at : goal.invariant-loop-at
invariant-loop-at g l = record {
  aligned : l.at % 4 ≡ 0;
  same : next_difference (ram_size g.row.PAGES) l.self l.other l.at ≡ next_difference (ram_size g.row.PAGES) l.self l.other l.fn.from;
}

abbrev pub decreases-loop-at : goal.decreases-loop-at
decreases-loop-at g l = ram_size g.row.PAGES - l.at
