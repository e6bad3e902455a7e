-- The operands of commands: the forms that the words after a name have.
use Rattle.std.specs.Prelude.{ℕ, List, [], ◌∷◌, Option, Some, None, option_and_then}
use Rattle.sv8_commands.specs.Words.{first_number, first_hex, first_bytes}

-- the next step on a value that was found
infixl 10 ◌>>=◌
abbrev pub ◌>>=◌ : {A B : Type 0} → Option A → (A → Option B) → Option B
o >>= f = option_and_then f o

-- this, where no word is left
unfoldable pub alone : {A : Type 0} → A → List (List ℕ) → Option A
alone a [] = Some a
alone a (word ∷ words) = None

unfoldable pub one_number : List (List ℕ) → Option ℕ
one_number words = do
  a ← first_number words
  alone a.0 a.1

unfoldable pub two_numbers : List (List ℕ) → Option (ℕ × ℕ)
two_numbers words = do
  a ← first_number words
  b ← first_number a.1
  alone (a.0, b.0) b.1

unfoldable pub three_numbers : List (List ℕ) → Option (ℕ × ℕ × ℕ)
three_numbers words = do
  a ← first_number words
  b ← first_number a.1
  c ← first_number b.1
  alone (a.0, b.0, c.0) c.1

-- an address has at most eight hexadecimal digits
unfoldable pub number_address : List (List ℕ) → Option (ℕ × ℕ)
number_address words = do
  n ← first_number words
  address ← first_hex 8 n.1
  alone (n.0, address.0) address.1

-- and then a value of at most so many hexadecimal digits
unfoldable pub number_address_value : ℕ → List (List ℕ) → Option (ℕ × ℕ × ℕ)
number_address_value digits words = do
  n ← first_number words
  address ← first_hex 8 n.1
  value ← first_hex digits address.1
  alone (n.0, address.0, value.0) value.1

-- and then one more number
unfoldable pub number_address_number : List (List ℕ) → Option (ℕ × ℕ × ℕ)
number_address_number words = do
  n ← first_number words
  address ← first_hex 8 n.1
  count ← first_number address.1
  alone (n.0, address.0, count.0) count.1

-- a number, and one byte or more of two hexadecimal digits each
unfoldable pub number_bytes : List (List ℕ) → Option (ℕ × List ℕ)
number_bytes words = do
  n ← first_number words
  bytes ← first_bytes n.1
  alone (n.0, bytes.0) bytes.1
