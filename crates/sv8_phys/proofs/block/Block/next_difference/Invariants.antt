use Rattle.std.proofs.Common.{◌≡◌, ◌-◌, ◌%◌, ◌≤◌}
use Rattle.sv8_phys.specs.Differences.{next_difference}
use Rattle.sv8_phys.proofs.block.Block.next_difference.Given as goal

abbrev pub invariant-loop-at : goal.invariant-loop-at
invariant-loop-at l = record {
  aligned : l.at % 4 ≡ 0;
  within : l.at ≤ 128;
  same : next_difference 128 l.self.bytes l.other.bytes l.at ≡ next_difference 128 l.self.bytes l.other.bytes l.fn.from;
}

abbrev pub decreases-loop-at : goal.decreases-loop-at
decreases-loop-at l = 128 - l.at
