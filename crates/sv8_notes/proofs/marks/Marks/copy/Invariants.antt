use Rattle.std.proofs.Common.{◌≡◌, take}
use Rattle.sv8_notes.proofs.marks.Marks.copy.Given as goal

abbrev pub invariant-loop-page : goal.invariant-loop-page
invariant-loop-page l = l.pages.items ≡ take l.page-index l.page-items
