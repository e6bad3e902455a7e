-- The pending levels as bits of a word, and as a list of conditions.
use Rattle.std.proofs.Common.{◌≡◌, ◌≢◌, refl, sym, ap, ap₂, ◌∙◌, arith, ℕ, zero, suc, ◌+◌, ◌-◌, ◌*◌, ◌%◌, ◌^◌, ◌==◌, ◌<◌, ◌≤◌, ◌⊎◌, inl, inr, Bool, true, false, not, ◌&&◌, ◌||◌, List, length, get_or, set, bit_or, bit_and, get_or-set_other, get_or-set_same, length-set, w32}
use Rattle.std.proofs.Math.Pow.{pow_mono}
use Rattle.std.specs.Int.{bit_at, bit_not}
use Rattle.std.proofs.lemmas.Bool.{cases_eq}
use Rattle.std.proofs.lemmas.List.{ext_get_or}
use Rattle.std.proofs.lemmas.List.FromFn.{length-map-range_with_len, get_or-map-range_with_len, fill_by_all}
use Rattle.std.proofs.lemmas.Nat.Bits.{bit_at-lt, bit_at_not, bit_at-pow_same, bit_at-pow_other}
use Rattle.sv8_model.specs.Words.{bit}
use Rattle.sv8_model.specs.Levels.{asked, cleared, levels_word, masked_from, unmasked_from}
use Rattle.sv8_model.proofs.Common.{length-masked, get_or-masked, length-unmasked, get_or-unmasked}
use Rattle.std.proofs.lemmas.Nat.{and_le_l}
use Rattle.sv8_phys.specs.Pending.{levels_of_word, AreLevels}
use Rattle.sv8_phys.proofs.PendingWord.{word_of_bits}
use Rattle.sv8_model.proofs.Bits.{bit-or, bit-and}

pub level_count : (word : ℕ) → length (levels_of_word word) ≡ 16
unfolding levels_of_word
level_count word = length-map-range_with_len (bit word) 0 16

-- the condition of a level is its bit
pub level_at : (word l : ℕ) → l < 16 → get_or (levels_of_word word) l false ≡ bit word l
unfolding levels_of_word
level_at word l h = get_or-map-range_with_len (bit word) 0 16 l l false h (omega arith)

pub are_levels : (word : ℕ) → bit word 0 ≡ false → AreLevels (levels_of_word word)
are_levels word h = record { count = level_count word; none_at_zero = level_at word 0 (omega arith) ∙ h }

-- a level is made pending

pub shifted_one : (l : ℕ) → l ≤ 15 → 1 * 2 ^ l % 2 ^ 16 ≡ 2 ^ l
shifted_one l h = let small : 2 ^ l ≤ 2 ^ 15 = pow_mono h in omega arith

pub shifted_word : (l : ℕ) → l ≤ 15 → 1 * 2 ^ l % 2 ^ 32 ≡ 2 ^ l
shifted_word l h = let small : 2 ^ l ≤ 2 ^ 15 = pow_mono h in omega arith

bit-pow_same : (l : ℕ) → bit (2 ^ l) l ≡ true
bit-pow_same l = ap (λ n. n == 1) (bit_at-pow_same l)

bit-pow_other : (l k : ℕ) → k ≢ l → bit (2 ^ l) k ≡ false
bit-pow_other l k h = ap (λ n. n == 1) (bit_at-pow_other l k h)

or-true : (b : Bool) → (b || true) ≡ true
or-true true = refl
or-true false = refl

or-false : (b : Bool) → (b || false) ≡ b
or-false true = refl
or-false false = refl

pub requested : (word l : ℕ) → l < 16 → levels_of_word (bit_or word (2 ^ l)) ≡ set (levels_of_word word) l true
unfolding levels_of_word
requested word l h =
    sym (fill_by_all (bit (bit_or word (2 ^ l))) (set (levels_of_word word) l true) 16 false (length-set (levels_of_word word) l true ∙ level_count word) (λ k below. at k below (cases_eq k l)))
  where
    at : (k : ℕ) → k < 16 → (k ≡ l) ⊎ (k ≢ l) → get_or (set (levels_of_word word) l true) k false ≡ bit (bit_or word (2 ^ l)) k
    at k below (inl same) =
        ap (λ i. get_or (set (levels_of_word word) l true) i false) same
        ∙ get_or-set_same (levels_of_word word) l true false (omega (arith, level_count word))
        ∙ sym (ap (λ i. bit (bit_or word (2 ^ l)) i) same ∙ bit-or word (2 ^ l) l ∙ ap (λ b. bit word l || b) (bit-pow_same l) ∙ or-true (bit word l))
    at k below (inr other) =
        get_or-set_other (levels_of_word word) l k true false other ∙ level_at word k below
        ∙ sym (bit-or word (2 ^ l) k ∙ ap (λ b. bit word k || b) (bit-pow_other l k other) ∙ or-false (bit word k))

pub requested_zero : (word l : ℕ) → 1 ≤ l → bit word 0 ≡ false → bit (bit_or word (2 ^ l)) 0 ≡ false
requested_zero word l h e = bit-or word (2 ^ l) 0 ∙ ap₂ ◌||◌ e (bit-pow_other l 0 (λ z. omega arith))

-- levels are no longer pending

zero_more : (k : ℕ) → 0 + k ≡ k
zero_more k = omega arith

test_of_not : (x : ℕ) → x < 2 → (1 - x == 1) ≡ not (x == 1)
test_of_not zero h = refl
test_of_not (suc zero) h = refl
test_of_not (suc (suc x)) h = absurd (omega arith)

-- a bit of a word without those of another
pub bit-without : (p word l : ℕ) → word < 2 ^ 32 → l < 32 → bit (bit_and p (bit_not w32 word)) l ≡ (bit p l && not (bit word l))
bit-without p word l h k =
    bit-and p (bit_not w32 word) l
    ∙ ap (λ b. bit p l && b) (ap (λ n. n == 1) (bit_at_not w32 word l h k) ∙ test_of_not (bit_at word l) (bit_at-lt word l))

pub cleared_word : (p word : ℕ) → word < 2 ^ 32 → levels_of_word (bit_and p (bit_not w32 word)) ≡ cleared word (levels_of_word p)
unfolding levels_of_word cleared
cleared_word p word h =
    sym (fill_by_all (bit (bit_and p (bit_not w32 word))) (unmasked_from 0 word (levels_of_word p)) 16 false (length-unmasked 0 word (levels_of_word p) ∙ level_count p) (λ k below.
    get_or-unmasked 0 word (levels_of_word p) k ∙ ap₂ (λ a b. a && not b) (level_at p k below) (ap (bit word) (zero_more k)) ∙ sym (bit-without p word k h (omega arith))))

pub cleared_zero : (p word : ℕ) → word < 2 ^ 32 → bit p 0 ≡ false → bit (bit_and p (bit_not w32 word)) 0 ≡ false
cleared_zero p word h e = bit-without p word 0 h (omega arith) ∙ ap (λ b. b && not (bit word 0)) e

-- those levels of a word that are pending

pub asked_word : (p word : ℕ) → p < 2 ^ 16 → bit_and p word ≡ asked word (levels_of_word p)
unfolding levels_of_word asked
asked_word p word h =
    word_of_bits (bit_and p word) (omega (arith, and_le_l p word))
    ∙ ap levels_word (sym (fill_by_all (bit (bit_and p word)) (masked_from 0 word (levels_of_word p)) 16 false (length-masked 0 word (levels_of_word p) ∙ level_count p) (λ k below.
    get_or-masked 0 word (levels_of_word p) k ∙ ap₂ ◌&&◌ (level_at p k below) (ap (bit word) (zero_more k)) ∙ sym (bit-and p word k))))

-- the only level of a word is no longer pending

and_not_true : (a : Bool) → (a && not true) ≡ false
and_not_true true = refl
and_not_true false = refl

and_not_false : (a : Bool) → (a && not false) ≡ a
and_not_false true = refl
and_not_false false = refl

pub withdrawn : (ps : List Bool) (l : ℕ) → l < length ps → cleared (2 ^ l) ps ≡ set ps l false
unfolding cleared
withdrawn ps l h = ext_get_or false (unmasked_from 0 (2 ^ l) ps) (set ps l false) (length-unmasked 0 (2 ^ l) ps ∙ sym (length-set ps l false)) (λ k below. at k (cases_eq k l))
  where
    at : (k : ℕ) → (k ≡ l) ⊎ (k ≢ l) → get_or (unmasked_from 0 (2 ^ l) ps) k false ≡ get_or (set ps l false) k false
    at k (inl same) =
        ap (λ i. get_or (unmasked_from 0 (2 ^ l) ps) i false) same ∙ get_or-unmasked 0 (2 ^ l) ps l
        ∙ ap (λ b. get_or ps l false && not b) (ap (bit (2 ^ l)) (zero_more l) ∙ bit-pow_same l) ∙ and_not_true (get_or ps l false)
        ∙ sym (ap (λ i. get_or (set ps l false) i false) same ∙ get_or-set_same ps l false false h)
    at k (inr other) =
        get_or-unmasked 0 (2 ^ l) ps k ∙ ap (λ b. get_or ps k false && not b) (ap (bit (2 ^ l)) (zero_more k) ∙ bit-pow_other l k other) ∙ and_not_false (get_or ps k false)
        ∙ sym (get_or-set_other ps l k false false other)
