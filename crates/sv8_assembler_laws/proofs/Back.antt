-- What a word means, encoded again.
use Rattle.std.proofs.Common.{◌≡◌, ℕ, suc, ◌+◌, ◌*◌, ◌-◌, ◌^◌, ◌<◌, pos, negsuc, ◌-ℤ◌, true, ◌==◌, ◌⊎◌, inl, inr, List, [], ◌∷◌, Option, Some, None, find, MatchOption, refl, ap, ◌∙◌, arith, eq-eqb}
use Rattle.std.proofs.lemmas.Bool.{eqb-true, eqb-false, cases_Bool, cases_lt}
use Rattle.std.proofs.lemmas.Bool.Decides.{nat_tests}
use Rattle.std.proofs.lemmas.Int.{ints}
use Rattle.sv8_model.specs.Words.{field, signed}
use Rattle.sv8_isa.specs.Operands.{operand_of, count_of, trap_number_of, condition_of}
use Rattle.sv8_isa.specs.Table.{op, op2, op3, rd, rs1, rs2, i, asi, annul, cond, simm13, low5, low7, low19, imm22, disp30, low, placed, Fixed, ◌is◌, Row, row, fits, source, table, row_of, meaning, canonical, bits_at, instr_at}
use Rattle.sv8_isa.specs.Encoding.{encoding, format_2, format_3, format_call, source_bits, natural_source, alternate_source, unsigned_bits, signed_bits, cond_code, annul_code}
use Rattle.sv8_assembler_laws.specs.WordLaws.{MeaningsEncode}
use Rattle.sv8_isa.proofs.FieldLemmas.{field_below, pow_half, signed_low, signed_high, signed_bits_low, signed_bits_high}
use Rattle.sv8_isa.proofs.Rows.{all_below_at, both}
use Rattle.sv8_isa.specs.declared.instr.Instr.{Instr}
use Rattle.sv8_isa.specs.declared.instr.Instr.TheVariants.{AltImm, Illegal, Fp, Cp}

pub record Good (w : ℕ) (r : Row) : Type 0 where
  pub good : fits w r ≡ true → meaning w ≡ r.instr w → (encoding (r.instr w) ≡ Some (bits_at (Some r) w)) ⊎ (r.instr w ≡ AltImm)

-- ---- parts of a word

pub unsigned_back : (n k : ℕ) → n < 2 ^ k → unsigned_bits n k ≡ Some n
unfolding unsigned_bits
unsigned_back n k h = grind (arith, nat_tests)

pub signed_back : (n k : ℕ) → 0 < k → n < 2 ^ k → signed_bits (signed n k) k ≡ Some n
signed_back n k some h =
    let half = pow_half k some in
    elim (cases_lt n (2 ^ (k - 1))) [
      | inl l ↦ rw (signed_low n k l) (signed_bits_low n k l)
      | inr l ↦
          let z : pos n -ℤ pos (2 ^ k) ≡ negsuc (2 ^ k - suc n) = omega (arith, ints) in
          let small : 2 ^ k - suc n < 2 ^ (k - 1) = omega arith in
          let back : 2 ^ k - (2 ^ k - suc n + 1) ≡ n = omega arith in
          rw (signed_high n k l, z) (signed_bits_high (2 ^ k - suc n) k small ∙ ap Some back)
    ]

pub cond_back : (w : ℕ) → cond_code (condition_of (field w 28 25)) ≡ field w 28 25
unfolding condition_of
cond_back w = eqb-true _ _ (all_below_at 16 (λ n. cond_code (condition_of n) == n) refl (field w 28 25) (field_below w 28 25))

pub annul_back : (w : ℕ) → annul_code (field w 29 29 == 1) ≡ field w 29 29 * 16
annul_back w =
    let small = field_below w 29 29 in
    elim (cases_Bool (field w 29 29 == 1)) [
      | inl e ↦ let one : field w 29 29 ≡ 1 = eqb-true _ _ e in rw e (omega arith)
      | inr e ↦ let none : field w 29 29 ≡ 0 = omega (arith, eqb-false _ _ e) in rw e (omega arith)
    ]

pub format_3_back : (o a c b s : ℕ) → a < 32 → b < 32 → format_3 o a c b (Some s) ≡ Some (o * 2 ^ 30 + a * 2 ^ 25 + c * 2 ^ 19 + b * 2 ^ 14 + s)
unfolding format_3
format_3_back o a c b s h k = grind (arith, nat_tests)

pub format_2_back : (a c s : ℕ) → a < 32 → format_2 a c (Some s) ≡ Some (a * 2 ^ 25 + c * 2 ^ 22 + s)
unfolding format_2
format_2_back a c s h = grind (arith, nat_tests)

pub source_back : (w : ℕ) → source_bits (operand_of w) ≡ Some (placed w (source simm13 w))
unfolding operand_of
source_back w =
    elim (cases_Bool (field w 13 13 == 1)) [
      | inl e ↦
          let one : field w 13 13 ≡ 1 = eqb-true _ _ e in
          let sum : 2 ^ 13 + field w 12 0 ≡ field w 13 13 * 2 ^ 13 + (field w 12 0 * 2 ^ 0 + 0) = omega arith in
          rw (e, signed_back (field w 12 0) 13 (omega arith) (field_below w 12 0)) (ap Some sum)
      | inr e ↦
          let small = field_below w 13 13 in
          let none : field w 13 13 ≡ 0 = omega (arith, eqb-false _ _ e) in
          let sum : field w 4 0 ≡ field w 13 13 * 2 ^ 13 + (field w 4 0 * 2 ^ 0 + 0) = omega arith in
          rw (e, unsigned_back (field w 4 0) 5 (field_below w 4 0)) (ap Some sum)
    ]

-- ---- rows

pub three_good : (w o c : ℕ) (make : ℕ → Instr) → encoding (make w) ≡ format_3 o (field w 29 25) c (field w 18 14) (source_bits (operand_of w))
    → Good w (row (op is o ∷ op3 is c ∷ []) (λ w. rd ∷ rs1 ∷ source simm13 w) make)
three_good w o c make e = record {
  good = λ f m.
      let g = both _ _ f in
      let eo : field w 31 30 ≡ o = eqb-true _ _ g.0 in
      let ec : field w 24 19 ≡ c = eqb-true _ _ (both _ _ g.1).0 in
      let s = placed w (source simm13 w) in
      let sum : o * 2 ^ 30 + field w 29 25 * 2 ^ 25 + c * 2 ^ 19 + field w 18 14 * 2 ^ 14 + s
      ≡ field w 31 30 * 2 ^ 30 + (field w 24 19 * 2 ^ 19 + (field w 29 25 * 2 ^ 25 + (field w 18 14 * 2 ^ 14 + s))) = omega arith in
      inl (e ∙ rw (source_back w) (format_3_back o _ c _ s (field_below w 29 25) (field_below w 18 14) ∙ ap Some sum));
}

pub count_back : (w : ℕ) → natural_source 5 (count_of w) ≡ Some (placed w (source low5 w))
unfolding count_of
count_back w =
    elim (cases_Bool (field w 13 13 == 1)) [
      | inl e ↦
          let one : field w 13 13 ≡ 1 = eqb-true _ _ e in
          let sum : 2 ^ 13 + field w 4 0 ≡ field w 13 13 * 2 ^ 13 + (field w 4 0 * 2 ^ 0 + 0) = omega arith in
          rw (e, unsigned_back (field w 4 0) 5 (field_below w 4 0)) (ap Some sum)
      | inr e ↦
          let small = field_below w 13 13 in
          let none : field w 13 13 ≡ 0 = omega (arith, eqb-false _ _ e) in
          let sum : field w 4 0 ≡ field w 13 13 * 2 ^ 13 + (field w 4 0 * 2 ^ 0 + 0) = omega arith in
          rw (e, unsigned_back (field w 4 0) 5 (field_below w 4 0)) (ap Some sum)
    ]

pub trap_number_back : (w : ℕ) → natural_source 7 (trap_number_of w) ≡ Some (placed w (source low7 w))
unfolding trap_number_of
trap_number_back w =
    elim (cases_Bool (field w 13 13 == 1)) [
      | inl e ↦
          let one : field w 13 13 ≡ 1 = eqb-true _ _ e in
          let sum : 2 ^ 13 + field w 6 0 ≡ field w 13 13 * 2 ^ 13 + (field w 6 0 * 2 ^ 0 + 0) = omega arith in
          rw (e, unsigned_back (field w 6 0) 7 (field_below w 6 0)) (ap Some sum)
      | inr e ↦
          let small = field_below w 13 13 in
          let none : field w 13 13 ≡ 0 = omega (arith, eqb-false _ _ e) in
          let sum : field w 4 0 ≡ field w 13 13 * 2 ^ 13 + (field w 4 0 * 2 ^ 0 + 0) = omega arith in
          rw (e, unsigned_back (field w 4 0) 5 (field_below w 4 0)) (ap Some sum)
    ]

pub alternate_back : (w : ℕ) → alternate_source (field w 12 5) (field w 4 0) ≡ Some (field w 12 5 * 2 ^ 5 + field w 4 0)
unfolding alternate_source
alternate_back w =
    let a = field_below w 12 5 in
    let b = field_below w 4 0 in
    grind (arith, nat_tests)

pub shift_good : (w c : ℕ) (make : ℕ → Instr) → encoding (make w) ≡ format_3 2 (field w 29 25) c (field w 18 14) (natural_source 5 (count_of w))
    → Good w (row (op is 2 ∷ op3 is c ∷ []) (λ w. rd ∷ rs1 ∷ source low5 w) make)
shift_good w c make e = record {
  good = λ f m.
      let g = both _ _ f in
      let eo : field w 31 30 ≡ 2 = eqb-true _ _ g.0 in
      let ec : field w 24 19 ≡ c = eqb-true _ _ (both _ _ g.1).0 in
      let s = placed w (source low5 w) in
      let sum : 2 * 2 ^ 30 + field w 29 25 * 2 ^ 25 + c * 2 ^ 19 + field w 18 14 * 2 ^ 14 + s
      ≡ field w 31 30 * 2 ^ 30 + (field w 24 19 * 2 ^ 19 + (field w 29 25 * 2 ^ 25 + (field w 18 14 * 2 ^ 14 + s))) = omega arith in
      inl (e ∙ rw (count_back w) (format_3_back 2 _ c _ s (field_below w 29 25) (field_below w 18 14) ∙ ap Some sum));
}

pub trap_good : (w c : ℕ) (make : ℕ → Instr) → encoding (make w) ≡ format_3 2 (cond_code (condition_of (field w 28 25))) c (field w 18 14) (natural_source 7 (trap_number_of w))
    → Good w (row (op is 2 ∷ op3 is c ∷ []) (λ w. cond ∷ rs1 ∷ source low7 w) make)
trap_good w c make e = record {
  good = λ f m.
      let g = both _ _ f in
      let eo : field w 31 30 ≡ 2 = eqb-true _ _ g.0 in
      let ec : field w 24 19 ≡ c = eqb-true _ _ (both _ _ g.1).0 in
      let s = placed w (source low7 w) in
      let small = field_below w 28 25 in
      let sum : 2 * 2 ^ 30 + field w 28 25 * 2 ^ 25 + c * 2 ^ 19 + field w 18 14 * 2 ^ 14 + s
      ≡ field w 31 30 * 2 ^ 30 + (field w 24 19 * 2 ^ 19 + (field w 28 25 * 2 ^ 25 + (field w 18 14 * 2 ^ 14 + s))) = omega arith in
      inl (e ∙ rw (cond_back w, trap_number_back w) (format_3_back 2 _ c _ s (omega arith) (field_below w 18 14) ∙ ap Some sum));
}

pub two_good : (w c : ℕ) (make : ℕ → Instr) → encoding (make w) ≡ format_3 2 0 c (field w 18 14) (source_bits (operand_of w))
    → Good w (row (op is 2 ∷ op3 is c ∷ []) (λ w. rs1 ∷ source simm13 w) make)
two_good w c make e = record {
  good = λ f m.
      let g = both _ _ f in
      let eo : field w 31 30 ≡ 2 = eqb-true _ _ g.0 in
      let ec : field w 24 19 ≡ c = eqb-true _ _ (both _ _ g.1).0 in
      let s = placed w (source simm13 w) in
      let sum : 2 * 2 ^ 30 + 0 * 2 ^ 25 + c * 2 ^ 19 + field w 18 14 * 2 ^ 14 + s
      ≡ field w 31 30 * 2 ^ 30 + (field w 24 19 * 2 ^ 19 + (field w 18 14 * 2 ^ 14 + s)) = omega arith in
      inl (e ∙ rw (source_back w) (format_3_back 2 0 c _ s (omega arith) (field_below w 18 14) ∙ ap Some sum));
}

-- the row of WRY, which fixes rd
pub write_y_good : (w c : ℕ) (make : ℕ → Instr) → encoding (make w) ≡ format_3 2 0 c (field w 18 14) (source_bits (operand_of w))
    → Good w (row (op is 2 ∷ op3 is c ∷ rd is 0 ∷ []) (λ w. rs1 ∷ source simm13 w) make)
write_y_good w c make e = record {
  good = λ f m.
      let g = both _ _ f in
      let h = both _ _ g.1 in
      let eo : field w 31 30 ≡ 2 = eqb-true _ _ g.0 in
      let ec : field w 24 19 ≡ c = eqb-true _ _ h.0 in
      let ed : field w 29 25 ≡ 0 = eqb-true _ _ (both _ _ h.1).0 in
      let s = placed w (source simm13 w) in
      let sum : 2 * 2 ^ 30 + 0 * 2 ^ 25 + c * 2 ^ 19 + field w 18 14 * 2 ^ 14 + s
      ≡ field w 31 30 * 2 ^ 30 + (field w 24 19 * 2 ^ 19 + (field w 29 25 * 2 ^ 25 + (field w 18 14 * 2 ^ 14 + s))) = omega arith in
      inl (e ∙ rw (source_back w) (format_3_back 2 0 c _ s (omega arith) (field_below w 18 14) ∙ ap Some sum));
}

pub read_good : (w c : ℕ) (make : ℕ → Instr) → encoding (make w) ≡ format_3 2 (field w 29 25) c 0 (Some 0)
    → Good w (row (op is 2 ∷ op3 is c ∷ []) (λ w. rd ∷ []) make)
read_good w c make e = record {
  good = λ f m.
      let g = both _ _ f in
      let eo : field w 31 30 ≡ 2 = eqb-true _ _ g.0 in
      let ec : field w 24 19 ≡ c = eqb-true _ _ (both _ _ g.1).0 in
      let sum : 2 * 2 ^ 30 + field w 29 25 * 2 ^ 25 + c * 2 ^ 19 + 0 * 2 ^ 14 + 0
      ≡ field w 31 30 * 2 ^ 30 + (field w 24 19 * 2 ^ 19 + (field w 29 25 * 2 ^ 25 + 0)) = omega arith in
      inl (e ∙ format_3_back 2 _ c 0 0 (field_below w 29 25) (omega arith) ∙ ap Some sum);
}

-- the row of RDY, which fixes rs1
pub read_y_good : (w c : ℕ) (make : ℕ → Instr) → encoding (make w) ≡ format_3 2 (field w 29 25) c 0 (Some 0)
    → Good w (row (op is 2 ∷ op3 is c ∷ rs1 is 0 ∷ []) (λ w. rd ∷ []) make)
read_y_good w c make e = record {
  good = λ f m.
      let g = both _ _ f in
      let h = both _ _ g.1 in
      let eo : field w 31 30 ≡ 2 = eqb-true _ _ g.0 in
      let ec : field w 24 19 ≡ c = eqb-true _ _ h.0 in
      let es : field w 18 14 ≡ 0 = eqb-true _ _ (both _ _ h.1).0 in
      let sum : 2 * 2 ^ 30 + field w 29 25 * 2 ^ 25 + c * 2 ^ 19 + 0 * 2 ^ 14 + 0
      ≡ field w 31 30 * 2 ^ 30 + (field w 24 19 * 2 ^ 19 + (field w 18 14 * 2 ^ 14 + (field w 29 25 * 2 ^ 25 + 0))) = omega arith in
      inl (e ∙ format_3_back 2 _ c 0 0 (field_below w 29 25) (omega arith) ∙ ap Some sum);
}

-- a row that fixes all
pub stbar_good : (w c : ℕ) (make : ℕ → Instr) → encoding (make w) ≡ format_3 2 0 c 15 (Some 0)
    → Good w (row (op is 2 ∷ op3 is c ∷ rs1 is 15 ∷ rd is 0 ∷ []) (λ w. []) make)
stbar_good w c make e = record {
  good = λ f m.
      let g = both _ _ f in
      let h = both _ _ g.1 in
      let k = both _ _ h.1 in
      let eo : field w 31 30 ≡ 2 = eqb-true _ _ g.0 in
      let ec : field w 24 19 ≡ c = eqb-true _ _ h.0 in
      let es : field w 18 14 ≡ 15 = eqb-true _ _ k.0 in
      let ed : field w 29 25 ≡ 0 = eqb-true _ _ (both _ _ k.1).0 in
      let sum : 2 * 2 ^ 30 + 0 * 2 ^ 25 + c * 2 ^ 19 + 15 * 2 ^ 14 + 0
      ≡ field w 31 30 * 2 ^ 30 + (field w 24 19 * 2 ^ 19 + (field w 18 14 * 2 ^ 14 + (field w 29 25 * 2 ^ 25 + 0))) = omega arith in
      inl (e ∙ format_3_back 2 0 c 15 0 (omega arith) (omega arith) ∙ ap Some sum);
}

pub alternate_good : (w c : ℕ) (make : ℕ → Instr) → encoding (make w) ≡ format_3 3 (field w 29 25) c (field w 18 14) (alternate_source (field w 12 5) (field w 4 0))
    → Good w (row (op is 3 ∷ op3 is c ∷ i is 0 ∷ []) (λ w. rd ∷ rs1 ∷ asi ∷ rs2 ∷ []) make)
alternate_good w c make e = record {
  good = λ f m.
      let g = both _ _ f in
      let h = both _ _ g.1 in
      let eo : field w 31 30 ≡ 3 = eqb-true _ _ g.0 in
      let ec : field w 24 19 ≡ c = eqb-true _ _ h.0 in
      let ei : field w 13 13 ≡ 0 = eqb-true _ _ (both _ _ h.1).0 in
      let s = field w 12 5 * 2 ^ 5 + field w 4 0 in
      let sum : 3 * 2 ^ 30 + field w 29 25 * 2 ^ 25 + c * 2 ^ 19 + field w 18 14 * 2 ^ 14 + (field w 12 5 * 2 ^ 5 + field w 4 0)
      ≡ field w 31 30 * 2 ^ 30 + (field w 24 19 * 2 ^ 19 + (field w 13 13 * 2 ^ 13 + (field w 29 25 * 2 ^ 25 + (field w 18 14 * 2 ^ 14 + (field w 12 5 * 2 ^ 5 + (field w 4 0 * 2 ^ 0 + 0)))))) = omega arith in
      inl (e ∙ rw (alternate_back w) (format_3_back 3 _ c _ s (field_below w 29 25) (field_below w 18 14) ∙ ap Some sum));
}

pub none_good : (w : ℕ) (fixed : List Fixed) → Good w (row fixed (λ w. []) (λ w. AltImm))
none_good w fixed = record { good = λ f m. inr refl }

-- ---- whole words

parts_3 : (w : ℕ) → w < 2 ^ 32 → w ≡ field w 31 30 * 2 ^ 30 + (field w 24 19 * 2 ^ 19 + (field w 29 25 * 2 ^ 25 + (field w 18 0 * 2 ^ 0 + 0)))
unfolding field
parts_3 w l = omega arith

parts_2 : (w : ℕ) → w < 2 ^ 32 → w ≡ field w 31 30 * 2 ^ 30 + (field w 24 22 * 2 ^ 22 + (field w 29 25 * 2 ^ 25 + (field w 21 0 * 2 ^ 0 + 0)))
unfolding field
parts_2 w l = omega arith

pub fp_good : (w : ℕ) (l : w < 2 ^ 32) (o c : ℕ) → Good w (row (op is o ∷ op3 is c ∷ []) (λ w. rd ∷ low19 ∷ []) (λ w. Fp w))
unfolding encoding
fp_good w l o c = record { good = λ f m. inl (rw (m, eq-eqb w w refl) (ap Some (parts_3 w l))) }

pub cp_good : (w : ℕ) (l : w < 2 ^ 32) (o c : ℕ) → Good w (row (op is o ∷ op3 is c ∷ []) (λ w. rd ∷ low19 ∷ []) (λ w. Cp w))
unfolding encoding
cp_good w l o c = record { good = λ f m. inl (rw (m, eq-eqb w w refl) (ap Some (parts_3 w l))) }

pub fp_branch_good : (w : ℕ) (l : w < 2 ^ 32) (o c : ℕ) → Good w (row (op is o ∷ op2 is c ∷ []) (λ w. rd ∷ imm22 ∷ []) (λ w. Fp w))
unfolding encoding
fp_branch_good w l o c = record { good = λ f m. inl (rw (m, eq-eqb w w refl) (ap Some (parts_2 w l))) }

pub cp_branch_good : (w : ℕ) (l : w < 2 ^ 32) (o c : ℕ) → Good w (row (op is o ∷ op2 is c ∷ []) (λ w. rd ∷ imm22 ∷ []) (λ w. Cp w))
unfolding encoding
cp_branch_good w l o c = record { good = λ f m. inl (rw (m, eq-eqb w w refl) (ap Some (parts_2 w l))) }

-- ---- op 0 and 1

pub unimp_good : (w c : ℕ) (make : ℕ → Instr) → encoding (make w) ≡ format_2 0 c (unsigned_bits (field w 21 0) 22)
    → Good w (row (op is 0 ∷ op2 is c ∷ []) (λ w. imm22 ∷ []) make)
unimp_good w c make e = record {
  good = λ f m.
      let g = both _ _ f in
      let eo : field w 31 30 ≡ 0 = eqb-true _ _ g.0 in
      let ec : field w 24 22 ≡ c = eqb-true _ _ (both _ _ g.1).0 in
      let sum : 0 * 2 ^ 25 + c * 2 ^ 22 + field w 21 0 ≡ field w 31 30 * 2 ^ 30 + (field w 24 22 * 2 ^ 22 + (field w 21 0 * 2 ^ 0 + 0)) = omega arith in
      inl (e ∙ rw (unsigned_back (field w 21 0) 22 (field_below w 21 0)) (format_2_back 0 c _ (omega arith) ∙ ap Some sum));
}

pub sethi_good : (w c : ℕ) (make : ℕ → Instr) → encoding (make w) ≡ format_2 (field w 29 25) c (unsigned_bits (field w 21 0) 22)
    → Good w (row (op is 0 ∷ op2 is c ∷ []) (λ w. rd ∷ imm22 ∷ []) make)
sethi_good w c make e = record {
  good = λ f m.
      let g = both _ _ f in
      let eo : field w 31 30 ≡ 0 = eqb-true _ _ g.0 in
      let ec : field w 24 22 ≡ c = eqb-true _ _ (both _ _ g.1).0 in
      let sum : field w 29 25 * 2 ^ 25 + c * 2 ^ 22 + field w 21 0 ≡ field w 31 30 * 2 ^ 30 + (field w 24 22 * 2 ^ 22 + (field w 29 25 * 2 ^ 25 + (field w 21 0 * 2 ^ 0 + 0))) = omega arith in
      inl (e ∙ rw (unsigned_back (field w 21 0) 22 (field_below w 21 0)) (format_2_back _ c _ (field_below w 29 25) ∙ ap Some sum));
}

pub branch_good : (w c : ℕ) (make : ℕ → Instr)
    → encoding (make w) ≡ format_2 (annul_code (field w 29 29 == 1) + cond_code (condition_of (field w 28 25))) c (signed_bits (signed (field w 21 0) 22) 22)
    → Good w (row (op is 0 ∷ op2 is c ∷ []) (λ w. annul ∷ cond ∷ imm22 ∷ []) make)
branch_good w c make e = record {
  good = λ f m.
      let g = both _ _ f in
      let eo : field w 31 30 ≡ 0 = eqb-true _ _ g.0 in
      let ec : field w 24 22 ≡ c = eqb-true _ _ (both _ _ g.1).0 in
      let a = field_below w 29 29 in
      let b = field_below w 28 25 in
      let sum : (field w 29 29 * 16 + field w 28 25) * 2 ^ 25 + c * 2 ^ 22 + field w 21 0
      ≡ field w 31 30 * 2 ^ 30 + (field w 24 22 * 2 ^ 22 + (field w 29 29 * 2 ^ 29 + (field w 28 25 * 2 ^ 25 + (field w 21 0 * 2 ^ 0 + 0)))) = omega arith in
      inl (e ∙ rw (annul_back w, cond_back w, signed_back (field w 21 0) 22 (omega arith) (field_below w 21 0)) (format_2_back _ c _ (omega arith) ∙ ap Some sum));
}

pub call_good : (w : ℕ) (make : ℕ → Instr) → encoding (make w) ≡ format_call 1 (signed_bits (signed (field w 29 0) 30) 30)
    → Good w (row (op is 1 ∷ []) (λ w. disp30 ∷ []) make)
unfolding format_call
call_good w make e = record {
  good = λ f m.
      let eo : field w 31 30 ≡ 1 = eqb-true _ _ (both _ _ f).0 in
      let sum : 1 * 2 ^ 30 + field w 29 0 ≡ field w 31 30 * 2 ^ 30 + (field w 29 0 * 2 ^ 0 + 0) = omega arith in
      inl (e ∙ rw (signed_back (field w 29 0) 30 (omega arith) (field_below w 29 0)) (ap Some sum));
}

-- ---- the table

infixr 40 ◌also◌
data AllGood (w : ℕ) : List Row → Type 0 where
  all : AllGood w []
  ◌also◌ : {r : Row} {rs : List Row} → Good w r → AllGood w rs → AllGood w (r ∷ rs)

found_good : (w : ℕ) (rs : List Row) → AllGood w rs → MatchOption (find (fits w) rs) (Unit {0}) (λ r. (fits w r ≡ true) × Good w r)
found_good w [] all = tt
found_good w (r ∷ rs) (good also rest) =
    elim (cases_Bool (fits w r)) [
      | inl e ↦ rw e (e, good)
      | inr e ↦ rw e (found_good w rs rest)
    ]

table_good : (w : ℕ) → w < 2 ^ 32 → AllGood w table
unfolding encoding
table_good w l =
    unimp_good w _ _ refl
    also branch_good w _ _ refl
    also sethi_good w _ _ refl
    also fp_branch_good w l _ _
    also cp_branch_good w l _ _
    also call_good w _ refl
    also three_good w _ _ _ refl
    also three_good w _ _ _ refl
    also three_good w _ _ _ refl
    also three_good w _ _ _ refl
    also three_good w _ _ _ refl
    also three_good w _ _ _ refl
    also three_good w _ _ _ refl
    also three_good w _ _ _ refl
    also three_good w _ _ _ refl
    also three_good w _ _ _ refl
    also three_good w _ _ _ refl
    also three_good w _ _ _ refl
    also three_good w _ _ _ refl
    also three_good w _ _ _ refl
    also three_good w _ _ _ refl
    also three_good w _ _ _ refl
    also three_good w _ _ _ refl
    also three_good w _ _ _ refl
    also three_good w _ _ _ refl
    also three_good w _ _ _ refl
    also three_good w _ _ _ refl
    also three_good w _ _ _ refl
    also three_good w _ _ _ refl
    also three_good w _ _ _ refl
    also three_good w _ _ _ refl
    also three_good w _ _ _ refl
    also three_good w _ _ _ refl
    also three_good w _ _ _ refl
    also three_good w _ _ _ refl
    also three_good w _ _ _ refl
    also three_good w _ _ _ refl
    also three_good w _ _ _ refl
    also three_good w _ _ _ refl
    also shift_good w _ _ refl
    also shift_good w _ _ refl
    also shift_good w _ _ refl
    also read_y_good w _ _ refl
    also stbar_good w _ _ refl
    also read_good w _ _ refl
    also read_good w _ _ refl
    also read_good w _ _ refl
    also write_y_good w _ _ refl
    also two_good w _ _ refl
    also two_good w _ _ refl
    also two_good w _ _ refl
    also fp_good w l _ _
    also fp_good w l _ _
    also cp_good w l _ _
    also cp_good w l _ _
    also three_good w _ _ _ refl
    also two_good w _ _ refl
    also trap_good w _ _ refl
    also two_good w _ _ refl
    also three_good w _ _ _ refl
    also three_good w _ _ _ refl
    also three_good w _ _ _ refl
    also alternate_good w _ _ refl
    also none_good w _
    also three_good w _ _ _ refl
    also alternate_good w _ _ refl
    also none_good w _
    also three_good w _ _ _ refl
    also alternate_good w _ _ refl
    also none_good w _
    also three_good w _ _ _ refl
    also alternate_good w _ _ refl
    also none_good w _
    also three_good w _ _ _ refl
    also alternate_good w _ _ refl
    also none_good w _
    also three_good w _ _ _ refl
    also alternate_good w _ _ refl
    also none_good w _
    also three_good w _ _ _ refl
    also alternate_good w _ _ refl
    also none_good w _
    also three_good w _ _ _ refl
    also alternate_good w _ _ refl
    also none_good w _
    also three_good w _ _ _ refl
    also alternate_good w _ _ refl
    also none_good w _
    also three_good w _ _ _ refl
    also alternate_good w _ _ refl
    also none_good w _
    also three_good w _ _ _ refl
    also alternate_good w _ _ refl
    also none_good w _
    also three_good w _ _ _ refl
    also alternate_good w _ _ refl
    also none_good w _
    also fp_good w l _ _
    also fp_good w l _ _
    also fp_good w l _ _
    also fp_good w l _ _
    also fp_good w l _ _
    also fp_good w l _ _
    also fp_good w l _ _
    also cp_good w l _ _
    also cp_good w l _ _
    also cp_good w l _ _
    also cp_good w l _ _
    also cp_good w l _ _
    also cp_good w l _ _
    also cp_good w l _ _
    also all

Back : ℕ → Option Row → Type 0
Back w o = meaning w ≡ instr_at o w → MatchOption (encoding (instr_at o w)) ((instr_at o w ≡ AltImm) ⊎ (instr_at o w ≡ Illegal)) (λ v. v ≡ bits_at o w)

back_at : (w : ℕ) (o : Option Row) → MatchOption o (Unit {0}) (λ r. (fits w r ≡ true) × Good w r) → Back w o
unfolding Back encoding
back_at w None h m = inr refl
back_at w (Some r) h m =
    elim (h.1.good h.0 m) [
      | inl e ↦ rw e refl
      | inr e ↦ rw e (inl refl)
    ]

pub meanings_encode_lem : MeaningsEncode
unfolding meaning canonical Back
meanings_encode_lem w l = back_at w (row_of w) (found_good w table (table_good w l)) refl
