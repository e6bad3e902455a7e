-- Words as numbers, their fields and bits, and numbers in two's complement.
use Rattle.std.specs.Prelude.{ℕ, ℤ, pos, negsuc, Bool, ◌+◌, ◌-◌, ◌/◌, ◌%◌, ◌^◌, ◌-ℤ◌, ◌==◌, nat_lt, if◌then◌else◌}

-- bits high down to low of a word
unfoldable pub field : ℕ → ℕ → ℕ → ℕ
field word high low = word / 2 ^ low % 2 ^ (high - low + 1)

-- the low 32 bits of a number
abbrev pub low_word : ℕ → ℕ
low_word number = number % 2 ^ 32

-- bit l of a word is set
abbrev pub bit : ℕ → ℕ → Bool
bit word l = word / 2 ^ l % 2 == 1

-- a condition as one bit
abbrev pub digit : Bool → ℕ
digit b = if b then 1 else 0

-- what k bits stand for in two's complement
unfoldable pub signed : ℕ → ℕ → ℤ
signed v k = if nat_lt v (2 ^ (k - 1)) then pos v else (pos v -ℤ pos (2 ^ k))

-- the k bits that stand for a number in two's complement; negsuc n is -(n + 1)
abbrev pub low_bits : ℤ → ℕ → ℕ
low_bits (pos n) k = n % 2 ^ k
low_bits (negsuc n) k = 2 ^ k - 1 - n % 2 ^ k

-- the word that stands for a number in two's complement
abbrev pub word_of_number : ℤ → ℕ
word_of_number z = low_bits z 32
