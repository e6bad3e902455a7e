-- Words of levels.
use Rattle.std.proofs.Common.{◌≡◌, ◌∙◌, ℕ, ◌-◌, ◌*◌, ◌^◌, ◌%◌, ◌<◌, ◌==◌, false, ◌≤◌, refl, ap, sym, None, arith, mod-eq_of_lt}
use Rattle.std.proofs.Math.Pow.{pow_mono}
use Rattle.std.proofs.lemmas.Bool.Decides.{nat_tests}
use Rattle.sv8_model.specs.Levels.{level_of}
use Rattle.sv8_trap.specs.Interrupt.{unmasked, highest}

-- below level 15 the power of two fits a word
pub unmasked_below : (level : ℕ) → level < 16 → (level ≡ 15 → ⊥) → 65536 - 2 * 2 ^ level % 4294967296 ≡ unmasked level
unfolding unmasked
unmasked_below level h far =
    let apart : (level == 15) ≡ false = grind (arith, nat_tests) in
    let power : 2 ^ level ≤ 2 ^ 14 = pow_mono {i = level} {j = 14} (omega (arith, h, far)) in
    ap (λ n. 65536 - n) (mod-eq_of_lt {n = 2 * 2 ^ level} {m = 4294967296} (omega (arith, power))) ∙ sym (rw apart refl)

-- a word of no bits has no level
pub no_level : (word : ℕ) → word ≡ 0 → None ≡ level_of (highest word)
no_level word e = rw e refl
