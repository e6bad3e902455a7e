-- A PSR word gives its fields back.
use Rattle.std.proofs.Common.{◌≡◌, ℕ, ◌/◌, ◌%◌, ◌^◌, ◌<◌, ◌≤◌, ◌==◌, Bool, true, false, refl, ap, ◌∙◌, arith}
use Rattle.sv8_model.specs.Words.{bit, digit}
use Rattle.sv8_regs.specs.Control.{packed_psr, unpacked_psr}
use Rattle.sv8_regs.specs.declared.Psr.{Psr}

digit_small : (b : Bool) → digit b ≤ 1
digit_small true = omega arith
digit_small false = omega arith

digit_back : (b : Bool) → (digit b == 1) ≡ b
digit_back true = refl
digit_back false = refl

-- a bit that stands alone at its place
read_bit : (b : Bool) (word k : ℕ) → word / 2 ^ k % 2 ≡ digit b → bit word k ≡ b
read_bit b word k e = ap (λ t. t == 1) e ∙ digit_back b

-- two PSRs of the same fields
same_fields : (q p : Psr) → q.n ≡ p.n → q.z ≡ p.z → q.v ≡ p.v → q.c ≡ p.c → q.pil ≡ p.pil → q.s ≡ p.s → q.ps ≡ p.ps → q.et ≡ p.et → q ≡ p
same_fields q p n z v c pil s ps et =
    ap (λ t. record q { n = t }) n
    ∙ ap (λ t. record q { n = p.n; z = t }) z
    ∙ ap (λ t. record q { n = p.n; z = p.z; v = t }) v
    ∙ ap (λ t. record q { n = p.n; z = p.z; v = p.v; c = t }) c
    ∙ ap (λ t. record p { pil = t; s = q.s; ps = q.ps; et = q.et }) pil
    ∙ ap (λ t. record p { s = t; ps = q.ps; et = q.et }) s
    ∙ ap (λ t. record p { ps = t; et = q.et }) ps
    ∙ ap (λ t. record p { et = t }) et

module _ (p : Psr) (w : ℕ) (level : p.pil < 16) (window : w < 32) where
  pub fields_back : unpacked_psr (packed_psr p w) ≡ p
  fields_back =
      let word = packed_psr p w in
      let n_small = digit_small p.n in
      let z_small = digit_small p.z in
      let v_small = digit_small p.v in
      let c_small = digit_small p.c in
      let s_small = digit_small p.s in
      let ps_small = digit_small p.ps in
      let et_small = digit_small p.et in
      let n_is = read_bit p.n word 23 (omega arith) in
      let z_is = read_bit p.z word 22 (omega arith) in
      let v_is = read_bit p.v word 21 (omega arith) in
      let c_is = read_bit p.c word 20 (omega arith) in
      let s_is = read_bit p.s word 7 (omega arith) in
      let ps_is = read_bit p.ps word 6 (omega arith) in
      let et_is = read_bit p.et word 5 (omega arith) in
      let pil_is : word / 2 ^ 8 % 2 ^ 4 ≡ p.pil = omega arith in
      same_fields _ p n_is z_is v_is c_is pil_is s_is ps_is et_is
