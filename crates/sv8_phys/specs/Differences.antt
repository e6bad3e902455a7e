-- Where two RAMs differ, word by word.
use Rattle.std.specs.Prelude.{◌≡◌, ◌≢◌, ℕ, zero, suc, ◌+◌, ◌-◌, ◌*◌, ◌/◌, ◌%◌, ◌≤◌, ◌<◌, ◌==◌, List, Option, Some, None, MatchOption, option_map, if◌then◌else◌}
use Rattle.sv8_model.specs.Outside.{word_of}

-- the first of so many words, from the word of a number on, that is another one in a second RAM
unfoldable pub differing_word : List ℕ → List ℕ → ℕ → ℕ → Option ℕ
differing_word ram other zero k = None
differing_word ram other (suc count) k = if word_of ram k == word_of other k then differing_word ram other count (k + 1) else Some k

-- the address of the first word, from the word at an address on, in which two RAMs of a size differ
abbrev pub next_difference : ℕ → List ℕ → List ℕ → ℕ → Option ℕ
next_difference limit ram other from = option_map (λ k. 4 * k) (differing_word ram other (limit / 4 - from / 4) (from / 4))

-- ---- what that means

-- two RAMs have the same word at an address
abbrev pub IsSameWord : List ℕ → List ℕ → ℕ → Type 0
IsSameWord ram other a = word_of ram (a / 4) ≡ word_of other (a / 4)

-- a word in which they differ, and there is none between an address and it
pub record IsNextDifference (limit : ℕ) (ram other : List ℕ) (from at : ℕ) : Type 0 where
  pub aligned : at % 4 ≡ 0
  pub not_below : from ≤ at
  pub within : at < limit
  pub differs : word_of ram (at / 4) ≢ word_of other (at / 4)
  pub least : (a : ℕ) → a % 4 ≡ 0 → from ≤ a → a < at → IsSameWord ram other a

-- from an address on they have the same words
abbrev pub AreSameFrom : ℕ → List ℕ → List ℕ → ℕ → Type 0
AreSameFrom limit ram other from = (a : ℕ) → a % 4 ≡ 0 → from ≤ a → a < limit → IsSameWord ram other a

-- what is found is the least word in which they differ; where nothing is found, there is none
abbrev pub DifferencesAreLeast : Type 0
DifferencesAreLeast =
    (limit from : ℕ) (ram other : List ℕ) → limit % 4 ≡ 0 → from % 4 ≡ 0
    → MatchOption (next_difference limit ram other from) (AreSameFrom limit ram other from) (λ at. IsNextDifference limit ram other from at)
