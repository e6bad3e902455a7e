use Rattle.std.proofs.Common.{◌≡◌, ℕ, ◌-◌, length}
use Rattle.sv8_time.specs.Inputs.{joined, Spread}
use Rattle.sv8_time.proofs.inputs.grow.Given as goal

abbrev pub invariant-loop-alloc : goal.invariant-loop-alloc
invariant-loop-alloc l = record {
  same : joined l.blocks.items ≡ joined l.initial.blocks.items;
  kept : (count : ℕ) → Spread l.initial.blocks.items l.initial.starts.items l.total count → Spread l.blocks.items l.starts.items l.total count;
}

abbrev pub decreases-loop-alloc : goal.decreases-loop-alloc
decreases-loop-alloc l = l.wanted - length l.blocks.items
