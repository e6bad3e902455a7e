use Rattle.std.proofs.Common.{◌≡◌, map, take}
use Rattle.sv8_source.specs.Names.{defined_names}
use Rattle.sv8_source.specs.View.{named_of}
use Rattle.sv8_source.proofs.names.names_by_line.Given as goal

abbrev pub invariant-loop-place : goal.invariant-loop-place
invariant-loop-place l = map named_of l.names.items ≡ defined_names (take l.place-index l.places)
