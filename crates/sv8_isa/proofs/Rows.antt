-- The row of a word whose op and op3 are known.
use Rattle.std.proofs.Common.{◌≡◌, ℕ, zero, suc, ◌<◌, Bool, true, false, ◌&&◌, refl, inl, inr, arith}
use Rattle.std.proofs.lemmas.Bool.{cases_lt}
use Rattle.sv8_model.specs.Words.{field}
use Rattle.sv8_isa.specs.Table.{row_at, meaning, instr_at}

pub meaning_at : (w o n : ℕ) → field w 31 30 ≡ o → field w 24 19 ≡ n → meaning w ≡ instr_at (row_at o n w) w
unfolding meaning
meaning_at w o n e f = rw (e, f) refl

-- ---- what holds of each number below another, by computing it

abbrev pub all_below : ℕ → (ℕ → Bool) → Bool
all_below zero p = true
all_below (suc n) p = p n && all_below n p

pub both : (a b : Bool) → (a && b) ≡ true → (a ≡ true) × (b ≡ true)
both true b h = (refl, h)
both false b h = (cc, cc)

pub all_below_at : (k : ℕ) (p : ℕ → Bool) → all_below k p ≡ true → (n : ℕ) → n < k → p n ≡ true
all_below_at zero p h n l = absurd (omega arith)
all_below_at (suc k) p h n l =
    elim (cases_lt n k) [
      | inl m ↦ all_below_at k p (both (p k) (all_below k p) h).1 n m
      | inr m ↦ let e : n ≡ k = omega arith in rw e (both (p k) (all_below k p) h).0
    ]
