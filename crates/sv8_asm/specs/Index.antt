-- The names as the code keeps them: a list, and a tree by which they are found.
use Rattle.std.specs.Prelude.{◌≡◌, ℕ, ℤ, pos, ◌≤◌, Option, Some, None, List, [], ◌∷◌, Vec}
use Rattle.std.specs.Cmp.Lexicographic.{slice_cmp}
use Rattle.std.specs.Ordering.{nat_cmp}
use Rattle.std.specs.BTreeMap as tree
use Rattle.std.specs.BTreeMap.{BTreeMap}
use Rattle.sv8_asm.specs.declared.symbols.Symbol.{Symbol}
use Rattle.sv8_asm.specs.Names.{Mark, mark, defined}
use Rattle.sv8_asm.specs.declared.marks.LocalLabel.{LocalLabel}

-- an entry of the list
abbrev pub pair_of : Symbol → List ℕ × ℤ
pair_of s = (s.name.items, s.value)

abbrev pub mark_of : LocalLabel → Mark
mark_of l = mark l.line l.location

-- the location of a line, if there is one
abbrev pub location_of : Option Mark → Option ℤ
location_of None = None
location_of (Some m) = Some (pos m.location)

-- the lines rise, or stay, from a line on and up to one
abbrev pub Ordered : ℕ → List Mark → ℕ → Type 0
Ordered from [] end = from ≤ end
Ordered from (m ∷ ms) end = (from ≤ m.line) × Ordered m.line ms end

-- the index answers as the list does
abbrev pub Answers : {A : Type 0} → BTreeMap (Vec ℕ A) ℤ → List (List ℕ × ℤ) → Type 0
Answers m named = (name : List ℕ) → tree.get_by (λ k. slice_cmp nat_cmp name k.items) m ≡ defined named name
