use Rattle.std.proofs.Common.{◌≡◌, take}
use Rattle.sv8_time.specs.Inputs.{givens}
use Rattle.sv8_time.proofs.block.copies_of.Given as goal

abbrev pub invariant-loop-entry : goal.invariant-loop-entry
invariant-loop-entry l = givens l.copies.items ≡ givens (take l.entry-index l.entries)
