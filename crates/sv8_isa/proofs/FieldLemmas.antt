-- Lemmas on fields and on numbers in two's complement.
use Rattle.std.proofs.Common.{◌≡◌, ℕ, zero, suc, ◌+◌, ◌*◌, ◌%◌, ◌-◌, ◌^◌, ◌<◌, ◌≤◌, ℤ, pos, negsuc, ◌-ℤ◌, ◌<ℤ◌, ◌≤ℤ◌, Some, None, ◌⊎◌, inl, inr, of_z, w32, arith, ap, sym, ◌∙◌}
use Rattle.std.proofs.lemmas.Bool.Decides.{nat_tests}
use Rattle.std.proofs.lemmas.Int.{ints}
use Rattle.std.proofs.Math.Nat.{mod-eq_of_lt}
use Rattle.std.proofs.lemmas.Nat.{pow-add, mod_below, mod_low, pow_pos}
use Rattle.sv8_model.specs.Words.{field, signed}
use Rattle.sv8_isa.specs.Encoding.{signed_bits}

pub field_below : (w high low : ℕ) → field w high low < 2 ^ (high - low + 1)
unfolding field
field_below w high low = mod_below _ _ (pow_pos (high - low + 1))

pub signed_low : (v k : ℕ) → v < 2 ^ (k - 1) → signed v k ≡ pos v
unfolding signed
signed_low v k h = grind (arith, nat_tests)

pub signed_high : (v k : ℕ) → 2 ^ (k - 1) ≤ v → signed v k ≡ pos v -ℤ pos (2 ^ k)
unfolding signed
signed_high v k h = grind (arith, nat_tests)

-- 2 ^ k is twice its half
pub pow_half : (k : ℕ) → 0 < k → 2 ^ k ≡ 2 * 2 ^ (k - 1)
pow_half k h =
    let e : 1 + (k - 1) ≡ k = omega arith in
    let p : 2 ^ (1 + (k - 1)) ≡ 2 * 2 ^ (k - 1) = pow-add 2 1 (k - 1) in
    rw e at p

pub signed_bits_low : (n k : ℕ) → n < 2 ^ (k - 1) → signed_bits (pos n) k ≡ Some n
unfolding signed_bits
signed_bits_low n k h = grind (arith, nat_tests)

pub signed_bits_high : (n k : ℕ) → n < 2 ^ (k - 1) → signed_bits (negsuc n) k ≡ Some (2 ^ k - (n + 1))
unfolding signed_bits
signed_bits_high n k h = grind (arith, nat_tests)

pub signed_bits_out : (z : ℤ) (k : ℕ) → (z <ℤ (pos 0 -ℤ pos (2 ^ (k - 1)))) ⊎ (pos (2 ^ (k - 1)) ≤ℤ z) → None ≡ signed_bits z k
unfolding signed_bits
signed_bits_out (pos n) k (inl h) = absurd (omega (arith, ints))
signed_bits_out (pos n) k (inr h) = let l : 2 ^ (k - 1) ≤ n = omega (arith, ints) in grind (arith, nat_tests)
signed_bits_out (negsuc n) k (inl h) = let l : 2 ^ (k - 1) ≤ n = omega (arith, ints) in grind (arith, nat_tests)
signed_bits_out (negsuc n) k (inr h) = absurd (omega (arith, ints))

high_mod_of : (n q k m : ℕ) → m ≡ q * 2 ^ k → 0 < q → suc n ≤ 2 ^ k → (m - suc n) % 2 ^ k ≡ 2 ^ k - (n + 1)
high_mod_of n zero k m p l h = absurd (omega arith)
high_mod_of n (suc r) k m p l h =
    let small : 2 ^ k - (n + 1) < 2 ^ k = omega arith in
    let split : m - suc n ≡ r * 2 ^ k + (2 ^ k - (n + 1)) = omega arith in
    rw split (mod_low r k (2 ^ k - (n + 1)) small)

-- the low k bits of 2 ^ 32 - (n + 1)
pub high_mod : (n k : ℕ) → k < 32 → suc n ≤ 2 ^ k → (2 ^ 32 - suc n) % 2 ^ k ≡ 2 ^ k - (n + 1)
high_mod n k l h =
    let e : (32 - k) + k ≡ 32 = omega arith in
    let p : 2 ^ 32 ≡ 2 ^ (32 - k) * 2 ^ k = rw e at (pow-add 2 (32 - k) k) in
    high_mod_of n (2 ^ (32 - k)) k (2 ^ 32) p (pow_pos (32 - k)) h

pub signed_bits_in : (z : ℤ) (k : ℕ) → 0 < k → k < 31 → (pos 0 -ℤ pos (2 ^ (k - 1))) ≤ℤ z → z <ℤ pos (2 ^ (k - 1)) → Some (of_z w32 z % 2 ^ k) ≡ signed_bits z k
signed_bits_in (pos n) k some l below above =
    let small : n < 2 ^ (k - 1) = omega (arith, ints) in
    let wide : n < 2 ^ k = omega (arith, pow_half k some) in
    let e : n % 2 ^ k ≡ n = mod-eq_of_lt wide in
    ap Some e ∙ sym (signed_bits_low n k small)
signed_bits_in (negsuc n) k some l below above =
    let small : n < 2 ^ (k - 1) = omega (arith, ints) in
    let e : (2 ^ 32 - suc n) % 2 ^ k ≡ 2 ^ k - (n + 1) = high_mod n k (omega arith) (omega (arith, pow_half k some)) in
    ap Some e ∙ sym (signed_bits_high n k small)
