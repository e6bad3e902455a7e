-- The word of pending levels, and its bits.
use Rattle.std.proofs.Common.{◌≡◌, refl, sym, ap, ap₂, ◌∙◌, arith, ℕ, zero, suc, ◌+◌, ◌*◌, ◌/◌, ◌%◌, ◌^◌, ◌==◌, ◌<◌, Bool, true, false, List, [], ◌∷◌, map, get_or}
use Rattle.std.specs.List.{range_with_len}
use Rattle.std.proofs.lemmas.Bool.Decides.{nat_tests}
use Rattle.std.proofs.lemmas.Grind.{pow_more}
use Rattle.std.proofs.lemmas.Nat.{shr-shr, mod-pow-add}
use Rattle.std.proofs.lemmas.Nat.Bits.{bit_at-suc}
use Rattle.sv8_model.specs.Words.{bit, digit}
use Rattle.sv8_model.specs.Levels.{bits_from, levels_word}
use Rattle.sv8_phys.specs.Pending.{levels_of_word}
use Rattle.sv8_phys.specs.Laws.{BitsArePending}
use Rattle.sv8_model.proofs.Bits.{bit-zero}

-- the word that has a bit for each condition of a list, the lowest for the first
packed : List Bool → ℕ
packed [] = 0
packed (b ∷ bs) = digit b + 2 * packed bs

turned : (d n : ℕ) → d * n ≡ n * d
turned d n = grind arith

regroup : (p d q : ℕ) → p * d + p * 2 * q ≡ p * (d + 2 * q)
regroup p d q = grind arith

shifted : (k : ℕ) (bs : List Bool) → bits_from k bs ≡ 2 ^ k * packed bs
unfolding packed
shifted k [] = omega arith
shifted k (b ∷ bs) =
    ap₂ ◌+◌ (turned (digit b) (2 ^ k)) (shifted (k + 1) bs ∙ ap (λ p. p * packed bs) (pow_more 2 k)) ∙ regroup (2 ^ k) (digit b) (packed bs)

word_is : (bs : List Bool) → levels_word bs ≡ packed bs
word_is bs = shifted 0 bs ∙ omega arith

lowest : (b : Bool) (n : ℕ) → ((digit b + 2 * n) / 2 ^ 0 % 2 == 1) ≡ b
lowest true n = grind (arith, nat_tests)
lowest false n = grind (arith, nat_tests)

higher : (b : Bool) (n : ℕ) → (digit b + 2 * n) / 2 ≡ n
higher true n = omega arith
higher false n = omega arith

bit_of_packed : (bs : List Bool) (l : ℕ) → bit (packed bs) l ≡ get_or bs l false
unfolding packed
bit_of_packed [] l = bit-zero l
bit_of_packed (b ∷ bs) zero = lowest b (packed bs)
bit_of_packed (b ∷ bs) (suc l) =
    ap (λ n. n == 1) (bit_at-suc (digit b + 2 * packed bs) l) ∙ ap (λ n. bit n l) (higher b (packed bs)) ∙ bit_of_packed bs l

pub bits_pending : BitsArePending
bits_pending bs l = ap (λ w. bit w l) (word_is bs) ∙ bit_of_packed bs l

digit-bit : (n : ℕ) → n < 2 → digit (n == 1) ≡ n
digit-bit zero h = refl
digit-bit (suc zero) h = refl
digit-bit (suc (suc n)) h = absurd (omega arith)

-- the bits of a word from k on, packed, are the word without the bits below k
packed_bits : (w k n : ℕ) → packed (map (bit w) (range_with_len k n)) ≡ w / 2 ^ k % 2 ^ n
unfolding packed
packed_bits w k zero = omega arith
packed_bits w k (suc n) =
    let half : w / 2 ^ k / 2 ≡ w / 2 ^ (k + 1) = shr-shr w k 1 in
    let split : w / 2 ^ k % 2 ^ (n + 1) ≡ (w / 2 ^ k / 2 % 2 ^ n) * 2 + w / 2 ^ k % 2 = mod-pow-add (w / 2 ^ k) n 1 in
    ap₂ (λ d p. d + 2 * p) (digit-bit (w / 2 ^ k % 2) (omega arith)) (packed_bits w (k + 1) n ∙ ap (λ m. m % 2 ^ n) (sym half))
    ∙ join (w / 2 ^ k % 2) (w / 2 ^ k / 2 % 2 ^ n) (w / 2 ^ k % 2 ^ (n + 1)) split ∙ ap (λ m. w / 2 ^ k % 2 ^ m) (omega arith)
  where
    join : (a b c : ℕ) → c ≡ b * 2 + a → a + 2 * b ≡ c
    join a b c e = omega arith

-- a word of 16 bits, put together from its bits
pub word_of_bits : (w : ℕ) → w < 2 ^ 16 → w ≡ levels_word (levels_of_word w)
unfolding levels_of_word
word_of_bits w h = sym (word_is (map (bit w) (range_with_len 0 16)) ∙ packed_bits w 0 16 ∙ omega arith)
