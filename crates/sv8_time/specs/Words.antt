-- Poked bytes as they are kept: a step and word with the values of those of its bytes that are poked.
use Rattle.std.specs.Prelude.{◌≡◌, ℕ, ◌+◌, ◌<◌, ◌≤◌, ◌%◌, Bool, true, List, [], ◌∷◌, ◌++◌, length, map, filter, flat_map, slice_get, Option, Some, None, is_some}
use Rattle.std.specs.List.{list_any}
use Rattle.sv8_time.specs.declared.words.WordPoke.{WordPoke}
use Rattle.sv8_time.specs.declared.words.ByAddress.{ByAddress}
use Rattle.sv8_time.specs.Order.{Each, Rising, place_before, comes_before, is_at}
use Rattle.sv8_time.specs.Schedule.{BytePoke, poke_of}

-- the poked bytes from an address on, of values that may be none
abbrev pub poked_from : ℕ → ℕ → List (Option ℕ) → List BytePoke
poked_from step address [] = []
poked_from step address (None ∷ bytes) = poked_from step (address + 1) bytes
poked_from step address (Some value ∷ bytes) = poke_of step address value ∷ poked_from step (address + 1) bytes

abbrev pub poked_bytes : WordPoke → List BytePoke
poked_bytes w = poked_from w.step w.address w.bytes

-- the poked bytes of all words
abbrev pub bytes_of_words : List WordPoke → List BytePoke
bytes_of_words words = flat_map poked_bytes words

abbrev pub is_poked : List (Option ℕ) → Bool
is_poked bytes = list_any is_some bytes

-- a word with poked bytes of RAM; a RAM of whole words holds the whole word
pub record IsWordIn (limit : ℕ) (w : WordPoke) : Type 0 where
  pub aligned : w.address % 4 ≡ 0
  pub full : length w.bytes ≡ 4
  pub poked : is_poked w.bytes ≡ true
  pub bytes_inside : (k value : ℕ) → slice_get w.bytes k ≡ Some (Some value) → w.address + k < limit
  pub word_inside : limit % 4 ≡ 0 → w.address + 4 ≤ limit

abbrev pub word_before : WordPoke → WordPoke → Bool
word_before = comes_before (λ w. w.step) (λ w. w.address)

abbrev pub is_word_at : ℕ → ℕ → WordPoke → Bool
is_word_at step address = is_at (λ w. w.step) (λ w. w.address) step address

-- the order by address, and within an address by step
abbrev pub by_address_before : ByAddress → ByAddress → Bool
by_address_before = comes_before (λ b. b.word.address) (λ b. b.word.step)

abbrev pub is_by_address_at : ℕ → ℕ → ByAddress → Bool
is_by_address_at address step = is_at (λ b. b.word.address) (λ b. b.word.step) address step

-- both orders hold the same words, each of which has a poked byte
pub record SameWords (words : List WordPoke) (by_address : List ByAddress) : Type 0 where
  pub rising : Rising word_before words
  pub rising_by_address : Rising by_address_before by_address
  pub poked : Each (λ w. is_poked w.bytes ≡ true) words
  pub same : (step address : ℕ) → filter (is_word_at step address) words ≡ map (λ b. b.word) (filter (is_by_address_at address step) by_address)

-- the poked bytes with those of one word replaced
abbrev pub with_bytes : ℕ → ℕ → List (Option ℕ) → List BytePoke → List BytePoke
with_bytes step address bytes pokes =
    filter (λ p. place_before p.step p.address step address) pokes ++ (poked_from step address bytes ++ filter (λ p. place_before step (address + 3) p.step p.address) pokes)
