use Rattle.std.proofs.Common.{◌≡◌, take}
use Rattle.sv8_time.proofs.inputs.copies_of.Given as goal

abbrev pub invariant-loop-block : goal.invariant-loop-block
invariant-loop-block l = l.copies.items ≡ take l.block-index l.blocks
