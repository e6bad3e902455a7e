-- Patches that the same steps read.
use Rattle.std.specs.Prelude.{◌≡◌, ◌/◌, List, ◌∷◌}
use Rattle.sv8_notes.specs.declared.cell.Cell as code
use Rattle.sv8_notes.specs.declared.cell.Cell.TheVariants as cell
use Rattle.sv8_notes.specs.declared.patch.Patch.{Patch}

-- both are cells of one word of RAM
abbrev pub AreOfOneWord : code.Cell → code.Cell → Type 0
AreOfOneWord (cell.Byte a) (cell.Byte b) = a / 4 ≡ b / 4
AreOfOneWord c d = ⊥

-- the same steps read what the two have changed
pub record AreReadAlike (p q : Patch) : Type 0 where
  pub word : AreOfOneWord p.cell q.cell
  pub from : p.from ≡ q.from
  pub to : p.to ≡ q.to

-- the first two of some patches are read alike
abbrev pub BeginAlike : List Patch → Type 0
BeginAlike (p ∷ q ∷ ps) = AreReadAlike p q
BeginAlike ps = ⊥
