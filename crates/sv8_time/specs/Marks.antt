-- The steps that are marked.
use Rattle.std.specs.Prelude.{◌≡◌, ℕ, Bool, true, false, List, slice_index_or}

-- a step beyond the flags is not marked
abbrev pub is_marked : List Bool → ℕ → Bool
is_marked flags step = slice_index_or flags step false

-- what was marked still is
abbrev pub Covers : List Bool → List Bool → Type 0
Covers old new = (step : ℕ) → is_marked old step ≡ true → is_marked new step ≡ true
