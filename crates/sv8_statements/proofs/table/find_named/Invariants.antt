use Rattle.std.proofs.Common.{◌≡◌, drop, map}
use Rattle.sv8_statements.specs.Table.{look_up, view}
use Rattle.sv8_statements.proofs.table.find_named.Given as goal

abbrev pub invariant-loop-entry : goal.invariant-loop-entry
invariant-loop-entry g l = look_up (map view (drop l.entry-index l.entries)) l.name ≡ look_up (map view l.entries) l.name
