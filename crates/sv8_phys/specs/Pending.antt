-- The pending interrupt levels as a list of conditions.
use Rattle.std.specs.Prelude.{◌≡◌, ℕ, Bool, false, List, map, length, slice_index_or}
use Rattle.std.specs.List.{range_with_len}
use Rattle.sv8_model.specs.Words.{bit}

-- the conditions of a word, index l for level l
unfoldable pub levels_of_word : ℕ → List Bool
levels_of_word word = map (bit word) (range_with_len 0 16)

-- there is a condition for each level from 0 to 15, and level 0, which is none, is not pending
pub record AreLevels (pending : List Bool) : Type 0 where
  pub count : length pending ≡ 16
  pub none_at_zero : slice_index_or pending 0 false ≡ false
