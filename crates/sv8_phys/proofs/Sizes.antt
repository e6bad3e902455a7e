-- How the size of a part divides addresses.
use Rattle.std.proofs.Common.{◌≡◌, ℕ, ◌+◌, ◌*◌, ◌/◌, ◌%◌, ◌<◌, ◌≤◌, arith}

-- what proofs need of the size of parts, of which no number of an access is in two
pub record IsSize (size : ℕ) : Type 0 where
  pub eighth : size % 8 ≡ 0
  pub start : (p : ℕ) → size * p % 8 ≡ 0
  pub next : (p n : ℕ) → p < n → size * p + size ≤ size * n
  pub place : (a : ℕ) → a ≡ size * (a / size) + a % size
  pub rest : (a : ℕ) → a % size < size
  pub part : (p i : ℕ) → i < size → (size * p + i) / size ≡ p
  pub within : (p i : ℕ) → i < size → (size * p + i) % size ≡ i
  pub below : (n a : ℕ) → a < size * n → a / size < n

-- that of a block
pub of_block : IsSize 128
of_block = record {
  eighth = omega arith;
  start = λ p. omega arith;
  next = λ p n below. omega arith;
  place = λ a. omega arith;
  rest = λ a. omega arith;
  part = λ p i below. omega arith;
  within = λ p i below. omega arith;
  below = λ n a below. omega arith;
}

-- that of a half of a page
pub of_half : IsSize 2048
of_half = record {
  eighth = omega arith;
  start = λ p. omega arith;
  next = λ p n below. omega arith;
  place = λ a. omega arith;
  rest = λ a. omega arith;
  part = λ p i below. omega arith;
  within = λ p i below. omega arith;
  below = λ n a below. omega arith;
}
