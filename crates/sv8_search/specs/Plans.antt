-- Which steps a search has to look at, by flags of steps that follow one another.
use Rattle.std.specs.Prelude.{◌≡◌, ℕ, ◌+◌, ◌/◌, ◌<◌, ◌≤◌, Bool, false, List, length, slice_index_or}
use Rattle.std.specs.List.{list_any}
use Rattle.sv8_workbench.specs.Kept.{Kept}
use Rattle.sv8_bench.specs.Workbench.{Workbench, checkpoints}
use Rattle.sv8_watch.specs.declared.condition.Condition.{Condition}
use Rattle.sv8_search.specs.Search.{is_wanted, meets_at}

-- THE FLAGS OF THE STEPS THAT MEET A CONDITION ARE SET, from a step on; flags that were set stay so
pub record HasFlagsOf (k : Kept) (c : Condition) (from : ℕ) (old new : List Bool) : Type 0 where
  pub count : length new ≡ length old
  pub missed : (i : ℕ) → i < length old → slice_index_or new i false ≡ false → (slice_index_or old i false ≡ false) × (meets_at k c (from + i) ≡ false)

-- the same of several conditions
pub record HasFlagsOfAll (k : Kept) (cs : List Condition) (from : ℕ) (old new : List Bool) : Type 0 where
  pub count : length new ≡ length old
  pub missed : (i : ℕ) → i < length old → slice_index_or new i false ≡ false
      → (slice_index_or old i false ≡ false) × (list_any (λ c. meets_at k c (from + i)) cs ≡ false)

-- A PLAN of the steps from one on: where it has a step whose flag is not set, all of its steps are recorded, and that step is not wanted
pub record IsPlan (k : ℕ) (w : Workbench) (cs : List Condition) (start : ℕ) (flags : List Bool) : Type 0 where
  pub recorded : (i : ℕ) → i < length flags → slice_index_or flags i false ≡ false → (start + length flags) / k ≤ checkpoints w
  pub missed : (i : ℕ) → i < length flags → slice_index_or flags i false ≡ false → is_wanted w.kept cs (start + i) ≡ false
