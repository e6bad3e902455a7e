-- Values in their ranges fit the fields.
use Rattle.std.proofs.Common.{◌≡◌, ℕ, zero, suc, ◌-◌, ◌/◌, ◌%◌, ◌^◌, ◌==◌, ◌<◌, ◌≤◌, ℤ, pos, negsuc, neg_ℤ, ◌-ℤ◌, Option, Some, None, Ok, Err, Bool, true, false, cond, ◌||◌, nat_lt, refl, arith}
use Rattle.std.specs.Prelude.{int_div}
use Rattle.std.specs.Int.Signed.{lt_z}
use Rattle.std.proofs.lemmas.Bool.Decides.{nat_tests}
use Rattle.sv8_isa.specs.Encoding.{is_register, is_signed, is_unsigned}
use Rattle.sv8_model.specs.Words.{word_of_number, signed}
use Rattle.sv8_statements.specs.declared.fault.LineFault.TheVariants.{OutOfRange, BadAlignment}
use Rattle.sv8_statements.specs.declared.register.Register.{Register}
use Rattle.sv8_statements.specs.declared.register.Register.TheVariants as r
use Rattle.sv8_statements.specs.Registers.{number_of_register}
use Rattle.sv8_asm.specs.Value.{is_outside, within, whole_words, call_words}

pub reg : (x : Register) → is_register (number_of_register x) ≡ true
reg r.G0 = refl
reg r.G1 = refl
reg r.G2 = refl
reg r.G3 = refl
reg r.G4 = refl
reg r.G5 = refl
reg r.G6 = refl
reg r.G7 = refl
reg r.O0 = refl
reg r.O1 = refl
reg r.O2 = refl
reg r.O3 = refl
reg r.O4 = refl
reg r.O5 = refl
reg r.O6 = refl
reg r.O7 = refl
reg r.L0 = refl
reg r.L1 = refl
reg r.L2 = refl
reg r.L3 = refl
reg r.L4 = refl
reg r.L5 = refl
reg r.L6 = refl
reg r.L7 = refl
reg r.I0 = refl
reg r.I1 = refl
reg r.I2 = refl
reg r.I3 = refl
reg r.I4 = refl
reg r.I5 = refl
reg r.I6 = refl
reg r.I7 = refl

pub neither : (a b : Bool) → (a || b) ≡ false → (a ≡ false) × (b ≡ false)
neither true b h = absurd (cc)
neither false b h = (refl, h)

pub in_range : (least most : ℤ) (v : Option ℤ) (z : ℤ) → within least most v ≡ Ok z → (lt_z z least ≡ false) × (lt_z most z ≡ false)
in_range least most None z h = absurd (cc)
in_range least most (Some v) z h = go (is_outside least most v) refl h
  where
    go : (b : Bool) → is_outside least most v ≡ b → cond b (Err OutOfRange) (Ok v) ≡ Ok z → (lt_z z least ≡ false) × (lt_z most z ≡ false)
    go true e k = absurd (cc)
    go false e k = let same : v ≡ z = cc in rw (← same) (neither (lt_z v least) (lt_z most v) e)

pub simm13 : (z : ℤ) → lt_z z (neg_ℤ (pos 4096)) ≡ false → lt_z (pos 4095) z ≡ false → is_signed z 13 ≡ true
simm13 (pos n) low high = let h : nat_lt 4095 n ≡ false = high in grind (arith, nat_tests)
simm13 (negsuc n) low high = let h : nat_lt 4095 n ≡ false = low in grind (arith, nat_tests)

pub natural : (most k : ℕ) (z : ℤ) → most < 2 ^ k → lt_z z (pos 0) ≡ false → lt_z (pos most) z ≡ false → is_unsigned z k ≡ true
natural most k (pos n) fits low high = let h : nat_lt most n ≡ false = high in grind (arith, nat_tests)
natural most k (negsuc n) fits low high = absurd (cc)

pub low_fits : (w : ℕ) → is_signed (pos (w % 2 ^ 10)) 13 ≡ true
low_fits w = let h : w % 1024 < 4096 = omega arith in grind (arith, nat_tests)

quotient : (m : ℕ) → m ≤ 2 ^ 21 → is_signed (neg_ℤ (pos m)) 22 ≡ true
quotient zero h = refl
quotient (suc m) h = let k : m < 2 ^ 21 = omega arith in grind (arith, nat_tests)

pub disp22 : (d k : ℤ) → whole_words d ≡ Ok k → is_signed k 22 ≡ true
disp22 d k h = go (is_outside (neg_ℤ (pos (2 ^ 23))) (pos (2 ^ 23 - 4)) d) (word_of_number d % 4 == 0) refl h
  where
    fits : (d : ℤ) → lt_z d (neg_ℤ (pos (2 ^ 23))) ≡ false → lt_z (pos (2 ^ 23 - 4)) d ≡ false → is_signed (int_div d (pos 4)) 22 ≡ true
    fits (pos n) low high = let e : nat_lt 8388604 n ≡ false = high in let f : n / 4 < 2097152 = grind (arith, nat_tests) in grind (arith, nat_tests)
    fits (negsuc n) low high = let e : nat_lt 8388607 n ≡ false = low in let f : suc n / 4 ≤ 2097152 = grind (arith, nat_tests) in quotient (suc n / 4) f

    go : (b c : Bool) → is_outside (neg_ℤ (pos (2 ^ 23))) (pos (2 ^ 23 - 4)) d ≡ b → cond b (Err OutOfRange) (cond c (Ok (int_div d (pos 4))) (Err BadAlignment)) ≡ Ok k → is_signed k 22 ≡ true
    go true c e i = absurd (cc)
    go false true e i =
        let same : int_div d (pos 4) ≡ k = cc in
        let n = neither (lt_z d (neg_ℤ (pos (2 ^ 23)))) (lt_z (pos (2 ^ 23 - 4)) d) e in
        rw (← same) (fits d n.0 n.1)
    go false false e i = absurd (cc)

pub word_small : (z : ℤ) → word_of_number z < 2 ^ 32
word_small (pos n) = omega arith
word_small (negsuc n) = omega arith

pub disp30 : (d k : ℤ) → call_words d ≡ Ok k → is_signed k 30 ≡ true
unfolding signed
disp30 d k h = go (word_of_number d % 4 == 0) (nat_lt (word_of_number d / 4) (2 ^ 29)) refl h
  where
    go : (b c : Bool) → nat_lt (word_of_number d / 4) (2 ^ 29) ≡ c → cond b (Ok (cond c (pos (word_of_number d / 4)) (pos (word_of_number d / 4) -ℤ pos (2 ^ 30)))) (Err BadAlignment) ≡ Ok k → is_signed k 30 ≡ true
    go true true e i = let same : pos (word_of_number d / 4) ≡ k = cc in rw (← same) e
    go true false e i = let same : (pos (word_of_number d / 4) -ℤ pos (2 ^ 30)) ≡ k = cc in rw (← same) (below (word_of_number d / 4) e (let w = word_small d in omega (arith, w)))
      where
        below : (v : ℕ) → nat_lt v (2 ^ 29) ≡ false → v < 2 ^ 30 → is_signed (pos v -ℤ pos (2 ^ 30)) 30 ≡ true
        below v e h =
            let k : nat_lt v 1073741824 ≡ true = grind (arith, nat_tests) in
            let f : 1073741824 - suc v < 536870912 = grind (arith, nat_tests) in
            let g : nat_lt (1073741824 - suc v) 536870912 ≡ true = grind (arith, nat_tests) in
            rw k g
    go false c e i = absurd (cc)
