use Rattle.std.proofs.Common.{◌≡◌, drop}
use Rattle.sv8_notes.specs.Cells.{cell_of}
use Rattle.sv8_notes.specs.Kept.{kept_in}
use Rattle.sv8_notes.proofs.kept.KeptList.find.Given as goal

abbrev pub invariant-loop-kept : goal.invariant-loop-kept
invariant-loop-kept l = kept_in l.offset (cell_of l.cell) (drop l.kept-index l.kept-items) ≡ kept_in l.offset (cell_of l.cell) l.self
