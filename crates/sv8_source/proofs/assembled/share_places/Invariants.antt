use Rattle.std.proofs.Common.{◌≡◌, ◌++◌, take}
use Rattle.sv8_source.proofs.assembled.share_places.Given as goal

abbrev pub invariant-loop-place : goal.invariant-loop-place
invariant-loop-place l = l.all.items ≡ l.fn.all.items ++ take l.place-index l.places
