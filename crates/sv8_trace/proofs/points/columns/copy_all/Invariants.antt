use Rattle.std.proofs.Common.{◌≡◌, take}
use Rattle.sv8_trace.proofs.points.columns.copy_all.Given as goal

abbrev pub invariant-loop-place : goal.invariant-loop-place
invariant-loop-place g l = l.copies.items ≡ take l.place-index l.places
