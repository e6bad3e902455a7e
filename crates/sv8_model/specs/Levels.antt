-- Interrupt levels: which of them are pending, as a list of conditions, index l for level l from 0 to 15; and words of levels, which have bit l for level l.
-- There is no level 0.
use Rattle.std.specs.Prelude.{ℕ, ◌+◌, ◌*◌, ◌^◌, Bool, not, ◌&&◌, List, [], ◌∷◌, Option, None, Some, nat_le, if◌then◌else◌}
use Rattle.sv8_model.specs.Words.{bit, digit}

-- the word that has a bit for each condition of a list, the first one being bit k
abbrev pub bits_from : ℕ → List Bool → ℕ
bits_from k [] = 0
bits_from k (b ∷ bs) = digit b * 2 ^ k + bits_from (k + 1) bs

-- the word of the levels that are pending
abbrev pub levels_word : List Bool → ℕ
levels_word pending = bits_from 0 pending

-- of the conditions from level k on, those whose bit in a word is set
abbrev pub masked_from : ℕ → ℕ → List Bool → List Bool
masked_from k word [] = []
masked_from k word (b ∷ bs) = (b && bit word k) ∷ masked_from (k + 1) word bs

-- of the conditions from level k on, those whose bit in a word is not set
abbrev pub unmasked_from : ℕ → ℕ → List Bool → List Bool
unmasked_from k word [] = []
unmasked_from k word (b ∷ bs) = (b && not (bit word k)) ∷ unmasked_from (k + 1) word bs

-- the word of those levels of a word that are pending
unfoldable pub asked : ℕ → List Bool → ℕ
asked word pending = levels_word (masked_from 0 word pending)

-- the levels of a word are no longer pending
unfoldable pub cleared : ℕ → List Bool → List Bool
cleared word pending = unmasked_from 0 word pending

-- all levels that there are, 1 to 15
abbrev pub every_level : ℕ
every_level = 0xfffe

-- the level that the timer requests
abbrev pub timer_level : ℕ
timer_level = 10

-- a number is that of a level
abbrev pub is_level : ℕ → Bool
is_level number = nat_le 1 number && nat_le number 15

-- the level of a number, where it is one
abbrev pub level_of : ℕ → Option ℕ
level_of number = if is_level number then Some number else None
