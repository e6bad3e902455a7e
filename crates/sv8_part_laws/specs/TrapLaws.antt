-- What is true of the choice among traps.
use Rattle.std.specs.Prelude.{◌≡◌, ◌⊎◌, false, List, [], ◌∷◌}
use Rattle.sv8_trap.specs.declared.table.Trap.{Trap}
use Rattle.sv8_trap.specs.Table.{row_of, is_before, first_among}

-- a trap is one of several
abbrev pub IsOneOf : Trap → List Trap → Type 0
IsOneOf u [] = ⊥
IsOneOf u (t ∷ ts) = (u ≡ t) ⊎ IsOneOf u ts

-- the one that is taken is one of those raised, and none of them comes before it
pub record TheFirstIsTaken : Type 0 where
  pub raised : (t : Trap) (ts : List Trap) → IsOneOf (first_among t ts) (t ∷ ts)
  pub first : (t : Trap) (ts : List Trap) (u : Trap) → IsOneOf u (t ∷ ts) → is_before (row_of u) (row_of (first_among t ts)) ≡ false
