-- The kept values of an interval.
use Rattle.std.specs.Prelude.{ℕ, ◌==◌, ◌&&◌, Bool, cond, List, [], ◌∷◌, Option, Some, None}
use Rattle.sv8_model.specs.Cells.{Cell, Value, same_cell}
use Rattle.sv8_notes.specs.declared.kept.Kept.{Kept}
use Rattle.sv8_notes.specs.Cells.{cell_of, content_of}

-- it is the value of a cell at the step with this offset
abbrev pub is_kept_of : ℕ → Cell → Kept → Bool
is_kept_of offset c k = k.offset == offset && same_cell (cell_of k.cell) c

-- the value kept of a cell at a step
abbrev pub kept_in : ℕ → Cell → List Kept → Option Value
kept_in offset c [] = None
kept_in offset c (k ∷ ks) = cond (is_kept_of offset c k) (Some (content_of k.content)) (kept_in offset c ks)
