use Rattle.std.proofs.Common.{◌≡◌, ◌++◌, map, take, drop, option_map}
use Rattle.sv8_trace.proofs.points.columns.cut_all.Given as goal

abbrev pub invariant-loop-index : goal.invariant-loop-index
invariant-loop-index g l = l.places.items ≡ map (option_map (g.C.Column.cut l.count)) (take l.index l.initial.places.items) ++ drop l.index l.initial.places.items
