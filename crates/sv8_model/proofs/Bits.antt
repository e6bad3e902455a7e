-- Bits of words.
use Rattle.std.proofs.Common.{◌≡◌, arith, ℕ, ◌/◌, ◌%◌, ◌^◌, ◌<◌, ◌==◌, false, max, min, ◌&&◌, ◌||◌, sym, ap, ◌∙◌, bit_or, bit_and}
use Rattle.std.proofs.lemmas.Bool.Decides.{nat_tests}
use Rattle.std.proofs.lemmas.Nat.Bits.{bit_at_or, bit_at_and, bit_at-lt, bit_at-zero, same_from_bits}
use Rattle.sv8_model.specs.Words.{bit}

max_groups : (x y z : ℕ) → max (max x y) z ≡ max x (max y z)
max_groups x y z = omega arith

-- what is in any of three words, however they are grouped
pub or_groups : (a b c : ℕ) → bit_or (bit_or a b) c ≡ bit_or a (bit_or b c)
or_groups a b c =
    same_from_bits _ _ (λ i.
    bit_at_or (bit_or a b) c i ∙ ap (λ m. max m (c / 2 ^ i % 2)) (bit_at_or a b i)
    ∙ max_groups (a / 2 ^ i % 2) (b / 2 ^ i % 2) (c / 2 ^ i % 2)
    ∙ ap (λ m. max (a / 2 ^ i % 2) m) (sym (bit_at_or b c i)) ∙ sym (bit_at_or a (bit_or b c) i))

test_of_max : (x y : ℕ) → x < 2 → y < 2 → (max x y == 1) ≡ (x == 1 || y == 1)
test_of_max x y h k = grind (arith, nat_tests)

test_of_min : (x y : ℕ) → x < 2 → y < 2 → (min x y == 1) ≡ (x == 1 && y == 1)
test_of_min x y h k = grind (arith, nat_tests)

-- a bit of two words together
pub bit-or : (a b l : ℕ) → bit (bit_or a b) l ≡ (bit a l || bit b l)
bit-or a b l = ap (λ x. x == 1) (bit_at_or a b l) ∙ test_of_max _ _ (bit_at-lt a l) (bit_at-lt b l)

-- a bit of what two words share
pub bit-and : (a b l : ℕ) → bit (bit_and a b) l ≡ (bit a l && bit b l)
bit-and a b l = ap (λ x. x == 1) (bit_at_and a b l) ∙ test_of_min _ _ (bit_at-lt a l) (bit_at-lt b l)

-- no bit of 0 is set
pub bit-zero : (l : ℕ) → bit 0 l ≡ false
bit-zero l = ap (λ x. x == 1) (bit_at-zero l)
