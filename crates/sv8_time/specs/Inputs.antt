-- The inputs as they are kept: in blocks of 1024 steps, each input with its bytes, and each input and block with the number of bytes before it.
use Rattle.std.specs.Prelude.{◌≡◌, ℕ, ◌+◌, ◌/◌, ◌≤◌, List, [], ◌∷◌, ◌++◌, length, map}
use Rattle.sv8_time.specs.declared.block.Entry.{Entry}
use Rattle.sv8_time.specs.Order.{Each, Rising}
use Rattle.sv8_time.specs.Schedule.{Input, input_of, input_before, input_bytes, byte_count}

abbrev pub given : Entry → Input
given e = input_of e.step e.bytes.items

abbrev pub givens : List Entry → List Input
givens entries = map given entries

-- the number of bytes before each input, and before all of them
abbrev pub starts_of : ℕ → List Input → List ℕ
starts_of before [] = []
starts_of before (i ∷ inputs) = before ∷ starts_of (before + length i.bytes) inputs

abbrev pub IsShort : Input → Type 0
IsShort i = length i.bytes ≤ 1024

pub record Kept (inputs : List Input) (starts : List ℕ) (total : ℕ) : Type 0 where
  pub rising : Rising input_before inputs
  pub short : Each IsShort inputs
  pub few : length inputs ≤ 65536
  pub starts_are : starts ≡ starts_of 0 inputs
  pub total_is : total ≡ byte_count inputs

-- the inputs of all blocks, one block after the other
abbrev pub joined : List (List Input) → List Input
joined [] = []
joined (b ∷ blocks) = b ++ joined blocks

-- the blocks from number n on have the steps that belong there
abbrev pub InBlocks : ℕ → List (List Input) → Type 0
InBlocks n [] = Unit {0}
InBlocks n (b ∷ blocks) = Each (λ i. i.step / 1024 ≡ n) b × InBlocks (n + 1) blocks

-- the bytes of a block as those of one input, and of all blocks
abbrev pub whole : List Input → Input
whole b = input_of 0 (input_bytes b)

abbrev pub wholes : List (List Input) → List Input
wholes blocks = map whole blocks

pub record Spread (blocks : List (List Input)) (starts : List ℕ) (total : ℕ) (count : ℕ) : Type 0 where
  pub in_blocks : InBlocks 0 blocks
  pub rising : Rising input_before (joined blocks)
  pub short : Each IsShort (joined blocks)
  pub few : length (joined blocks) ≤ 65536
  pub count_is : count ≡ length (joined blocks)
  pub starts_are : starts ≡ starts_of 0 (wholes blocks)
  pub total_is : total ≡ byte_count (wholes blocks)
