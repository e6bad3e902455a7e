-- The instructions of values that are in their ranges have words.
use Rattle.std.proofs.Common.{◌≡◌, ◌∙◌, ℕ, ◌-◌, ◌/◌, ◌^◌, ◌<◌, ℤ, pos, negsuc, neg_ℤ, not, ◌-ℤ◌, List, [], ◌∷◌, Option, Some, None, Result, Ok, Err, Bool, true, false, cond, ◌&&◌, nat_lt, refl, arith}
use Rattle.std.specs.List.{list_all}
use Rattle.std.specs.Option.{is_some}
use Rattle.std.specs.Int.Signed.{lt_z}
use Rattle.std.proofs.lemmas.Bool.Decides.{nat_tests}
use Rattle.sv8_isa.specs.Encoding.{encoding, is_source, is_natural, is_encodable}
use Rattle.sv8_assembler_laws.proofs.InRange.{in_range as encodes_in_range}
use Rattle.sv8_isa.specs.declared.instr.Instr.{Instr}
use Rattle.sv8_isa.specs.declared.instr.Instr.TheVariants as instr
use Rattle.sv8_isa.specs.declared.instr.Operand.{Operand}
use Rattle.sv8_isa.specs.declared.instr.Operand.TheVariants as source
use Rattle.sv8_model.specs.Words.{word_of_number}
use Rattle.sv8_statements.specs.declared.fault.LineFault.{LineFault}
use Rattle.sv8_statements.specs.declared.fault.LineFault.TheVariants.{OutOfRange}
use Rattle.sv8_statements.specs.declared.register.Register.{Register}
use Rattle.sv8_statements.specs.declared.value.Expr.{Expr}
use Rattle.sv8_statements.specs.declared.value.Imm.TheVariants as imm
use Rattle.sv8_statements.specs.declared.value.RegOrImm.{RegOrImm}
use Rattle.sv8_statements.specs.declared.value.RegOrImm.TheVariants as operand
use Rattle.sv8_statements.specs.declared.value.Upper.{Upper}
use Rattle.sv8_statements.specs.declared.value.Upper.TheVariants as upper
use Rattle.sv8_statements.specs.declared.statement.Operation.{Operation}
use Rattle.sv8_statements.specs.declared.statement.Operation.TheVariants as operation
use Rattle.sv8_statements.specs.declared.statement.Instruction.{Instruction}
use Rattle.sv8_statements.specs.declared.statement.Instruction.TheVariants as instruction
use Rattle.sv8_statements.specs.declared.statement.Statement.TheVariants as statement
use Rattle.sv8_statements.specs.Registers.{number_of_register}
use Rattle.sv8_asm.specs.Names.{Names}
use Rattle.sv8_asm.specs.Size.{plain, has_no_low_bits}
use Rattle.sv8_asm.specs.Value.{is_outside, within, value_of, as_word, word_of, whole_words, displacement, call_words, call_target, call_displacement}
use Rattle.sv8_asm.specs.Code.{on_ok, low_part, least_immediate, most_immediate, second_source, magnitude, upper_bits, format_3, below, instruction_of, set_short, set_high, set_low, set_long, set_instructions}
use Rattle.sv8_assembler_laws.specs.StatementLaws.{is_count, is_low, has_low_count, ValuesFitFields}
use Rattle.sv8_assembler_laws.proofs.Ranges.{neither, reg, in_range, simm13, natural, low_fits, disp22, word_small, disp30}

-- ---- second sources

abbrev fits : Operation → Operand → Bool
fits (operation.Shift o) x = is_natural 5 x
fits (operation.Trap c) x = is_natural 7 x
fits o x = is_source x

of_value : (v : Option ℤ) (x : Operand) → on_ok (within (neg_ℤ (pos 4096)) (pos 4095) v) source.Immediate ≡ Ok x → is_source x ≡ true
of_value v x h = go (within (neg_ℤ (pos 4096)) (pos 4095) v) refl h
  where
    go : (r : Result ℤ LineFault) → within (neg_ℤ (pos 4096)) (pos 4095) v ≡ r → on_ok r source.Immediate ≡ Ok x → is_source x ≡ true
    go (Err e) f k = absurd (cc)
    go (Ok z) f k = let same : source.Immediate z ≡ x = cc in let n = in_range (neg_ℤ (pos 4096)) (pos 4095) v z f in rw (← same) (simm13 z n.0 n.1)

of_count : (most k : ℕ) (v : Option ℤ) (x : Operand) → most < 2 ^ k → on_ok (within (pos 0) (pos most) v) source.Immediate ≡ Ok x → is_natural k x ≡ true
of_count most k v x m h = go (within (pos 0) (pos most) v) refl h
  where
    go : (r : Result ℤ LineFault) → within (pos 0) (pos most) v ≡ r → on_ok r source.Immediate ≡ Ok x → is_natural k x ≡ true
    go (Err e) f i = absurd (cc)
    go (Ok z) f i = let same : source.Immediate z ≡ x = cc in let n = in_range (pos 0) (pos most) v z f in rw (← same) (natural most k z m n.0 n.1)

of_low : (r : Result ℕ LineFault) (x : Operand) → on_ok (on_ok r low_part) source.Immediate ≡ Ok x → is_source x ≡ true
of_low (Err e) x h = absurd (cc)
of_low (Ok w) x h = let same : source.Immediate (low_part w) ≡ x = cc in rw (← same) (low_fits w)

general : (names : Names) (line : ℕ) (o : Operation) (s : RegOrImm) (x : Operand) → least_immediate o ≡ neg_ℤ (pos 4096) → most_immediate o ≡ pos 4095 → second_source names line o s ≡ Ok x → is_source x ≡ true
general names line o (operand.Register r) x l m h = let same : source.Register (number_of_register r) ≡ x = cc in rw (← same) (reg r)
general names line o (operand.Immediate (imm.Value e)) x l m h = of_value (value_of names line e) x (rw (← l, ← m) h)
general names line o (operand.Immediate (imm.Low e)) x l m h = of_low (word_of names line e) x h

counted : (names : Names) (line most k : ℕ) (o : Operation) (s : RegOrImm) (x : Operand) → most < 2 ^ k → least_immediate o ≡ pos 0 → most_immediate o ≡ pos most → is_low s ≡ false → second_source names line o s ≡ Ok x → is_natural k x ≡ true
counted names line most k o (operand.Register r) x f l m p h = let same : source.Register (number_of_register r) ≡ x = cc in rw (← same) (reg r)
counted names line most k o (operand.Immediate (imm.Value e)) x f l m p h = of_count most k (value_of names line e) x f (rw (← l, ← m) h)
counted names line most k o (operand.Immediate (imm.Low e)) x f l m p h = absurd (cc)

source_fits : (names : Names) (line : ℕ) (o : Operation) (s : RegOrImm) (x : Operand) → (is_count o && is_low s) ≡ false → second_source names line o s ≡ Ok x → fits o x ≡ true
source_fits names line (operation.Arith a b) s x p h = general names line (operation.Arith a b) s x refl refl h
source_fits names line (operation.Tagged a) s x p h = general names line (operation.Tagged a) s x refl refl h
source_fits names line operation.Mulscc s x p h = general names line operation.Mulscc s x refl refl h
source_fits names line operation.Save s x p h = general names line operation.Save s x refl refl h
source_fits names line operation.Restore s x p h = general names line operation.Restore s x refl refl h
source_fits names line (operation.Shift a) s x p h = counted names line 31 5 (operation.Shift a) s x (omega arith) refl refl p h
source_fits names line (operation.Memory a) s x p h = general names line (operation.Memory a) s x refl refl h
source_fits names line operation.Jmpl s x p h = general names line operation.Jmpl s x refl refl h
source_fits names line operation.Rett s x p h = general names line operation.Rett s x refl refl h
source_fits names line operation.Flush s x p h = general names line operation.Flush s x refl refl h
source_fits names line (operation.Trap c) s x p h = counted names line 127 7 (operation.Trap c) s x (omega arith) refl refl p h
source_fits names line (operation.Read a) s x p h = general names line (operation.Read a) s x refl refl h
source_fits names line (operation.Write a) s x p h = general names line (operation.Write a) s x refl refl h
source_fits names line operation.Stbar s x p h = general names line operation.Stbar s x refl refl h

format_fits : (o : Operation) (rd rs1 : Register) (x : Operand) → fits o x ≡ true → is_encodable (format_3 o (number_of_register rd) (number_of_register rs1) x) ≡ true
unfolding is_encodable
format_fits (operation.Arith a b) rd rs1 x h = rw (reg rd, reg rs1, h) refl
format_fits (operation.Tagged a) rd rs1 x h = rw (reg rd, reg rs1, h) refl
format_fits operation.Mulscc rd rs1 x h = rw (reg rd, reg rs1, h) refl
format_fits operation.Save rd rs1 x h = rw (reg rd, reg rs1, h) refl
format_fits operation.Restore rd rs1 x h = rw (reg rd, reg rs1, h) refl
format_fits (operation.Shift a) rd rs1 x h = rw (reg rd, reg rs1, h) refl
format_fits (operation.Memory a) rd rs1 x h = rw (reg rd, reg rs1, h) refl
format_fits operation.Jmpl rd rs1 x h = rw (reg rd, reg rs1, h) refl
format_fits operation.Rett rd rs1 x h = rw (reg rs1, h) refl
format_fits operation.Flush rd rs1 x h = rw (reg rs1, h) refl
format_fits (operation.Trap c) rd rs1 x h = rw (reg rs1, h) refl
format_fits (operation.Read a) rd rs1 x h = rw (reg rd) refl
format_fits (operation.Write a) rd rs1 x h = rw (reg rs1, h) refl
format_fits operation.Stbar rd rs1 x h = refl

-- ---- instructions

of_source : (o : Operation) (rd rs1 : Register) (r : Result Operand LineFault) (i : Instr) → ((x : Operand) → r ≡ Ok x → fits o x ≡ true)
    → on_ok r (format_3 o (number_of_register rd) (number_of_register rs1)) ≡ Ok i → is_encodable i ≡ true
of_source o rd rs1 (Err e) i f h = absurd (cc)
of_source o rd rs1 (Ok x) i f h = let same : format_3 o (number_of_register rd) (number_of_register rs1) x ≡ i = cc in rw (← same) (format_fits o rd rs1 x (f x refl))

below_bound : (bound n m : ℕ) → below bound n ≡ Ok m → nat_lt m bound ≡ true
below_bound bound n m h = go (nat_lt n bound) refl h
  where
    go : (b : Bool) → nat_lt n bound ≡ b → cond b (Ok n) (Err OutOfRange) ≡ Ok m → nat_lt m bound ≡ true
    go false e k = absurd (cc)
    go true e k = let same : n ≡ m = cc in rw (← same) e

word_fits : (v : Option ℤ) (w : ℕ) → as_word (within (neg_ℤ (pos (2 ^ 31))) (pos (2 ^ 32 - 1)) v) ≡ Ok w → w < 2 ^ 32
word_fits v w h = go (within (neg_ℤ (pos (2 ^ 31))) (pos (2 ^ 32 - 1)) v) h
  where
    go : (r : Result ℤ LineFault) → as_word r ≡ Ok w → w < 2 ^ 32
    go (Err e) k = absurd (cc)
    go (Ok z) k = let same : word_of_number z ≡ w = cc in rw (← same) (word_small z)

upper_fits : (names : Names) (line : ℕ) (u : Upper) (m : ℕ) → upper_bits names line u ≡ Ok m → nat_lt m (2 ^ 22) ≡ true
upper_fits names line (upper.Value e) m h = go (within (pos 0) (pos (2 ^ 22 - 1)) (value_of names line e)) refl h
  where
    small : (z : ℤ) → lt_z (pos (2 ^ 22 - 1)) z ≡ false → nat_lt (magnitude z) (2 ^ 22) ≡ true
    small (pos n) f = let g : nat_lt 4194303 n ≡ false = f in grind (arith, nat_tests)
    small (negsuc n) f = refl

    go : (r : Result ℤ LineFault) → within (pos 0) (pos (2 ^ 22 - 1)) (value_of names line e) ≡ r → on_ok r magnitude ≡ Ok m → nat_lt m (2 ^ 22) ≡ true
    go (Err x) f k = absurd (cc)
    go (Ok z) f k = let same : magnitude z ≡ m = cc in let n = in_range (pos 0) (pos (2 ^ 22 - 1)) (value_of names line e) z f in rw (← same) (small z n.1)
upper_fits names line (upper.High e) m h = go (word_of names line e) refl h
  where
    go : (r : Result ℕ LineFault) → word_of names line e ≡ r → on_ok r (λ word. word / 2 ^ 10) ≡ Ok m → nat_lt m (2 ^ 22) ≡ true
    go (Err x) f k = absurd (cc)
    go (Ok w) f k =
        let same : w / 2 ^ 10 ≡ m = cc in
        let small = word_fits (value_of names line e) w f in
        let g : w / 1024 < 4194304 = omega (arith, small) in
        rw (← same) (grind (arith, nat_tests))

instruction_fits : (names : Names) (line at : ℕ) (s : Instruction) (i : Instr) → has_low_count (statement.Instruction s) ≡ false → instruction_of names line at s ≡ Ok i → is_encodable i ≡ true
unfolding is_encodable
instruction_fits names line at (instruction.Format3 o rd rs1 s) i p h = of_source o rd rs1 (second_source names line o s) i (λ x. source_fits names line o s x p) h
instruction_fits names line at (instruction.Alternate o rd rs1 rs2 asi) i p h = go (below 256 asi) refl h
  where
    go : (r : Result ℕ LineFault) → below 256 asi ≡ r → on_ok r (instr.Alternate o (number_of_register rd) (number_of_register rs1) (number_of_register rs2)) ≡ Ok i → is_encodable i ≡ true
    go (Err e) f k = absurd (cc)
    go (Ok n) f k = let same : instr.Alternate o (number_of_register rd) (number_of_register rs1) (number_of_register rs2) n ≡ i = cc in rw (← same, reg rd, reg rs1, reg rs2, below_bound 256 asi n f) refl
instruction_fits names line at (instruction.Branch c annul target) i p h = go (value_of names line target) h
  where
    of_words : (d : ℤ) (r : Result ℤ LineFault) → whole_words d ≡ r → on_ok r (instr.Bicc c annul) ≡ Ok i → is_encodable i ≡ true
    of_words d (Err e) f k = absurd (cc)
    of_words d (Ok z) f k = let same : instr.Bicc c annul z ≡ i = cc in rw (← same) (disp22 d z f)

    go : (v : Option ℤ) → on_ok (displacement at v) (instr.Bicc c annul) ≡ Ok i → is_encodable i ≡ true
    go None k = absurd (cc)
    go (Some v) k = of_words (v -ℤ pos at) (whole_words (v -ℤ pos at)) refl k
instruction_fits names line at (instruction.Call target) i p h = go (call_target names line target) h
  where
    of_words : (d : ℤ) (r : Result ℤ LineFault) → call_words d ≡ r → on_ok r instr.Call ≡ Ok i → is_encodable i ≡ true
    of_words d (Err e) f k = absurd (cc)
    of_words d (Ok z) f k = let same : instr.Call z ≡ i = cc in rw (← same) (disp30 d z f)

    go : (v : Result ℤ LineFault) → on_ok (call_displacement at v) instr.Call ≡ Ok i → is_encodable i ≡ true
    go (Err e) k = absurd (cc)
    go (Ok v) k = of_words (v -ℤ pos at) (call_words (v -ℤ pos at)) refl k
instruction_fits names line at (instruction.Sethi value rd) i p h = go (upper_bits names line value) refl h
  where
    go : (r : Result ℕ LineFault) → upper_bits names line value ≡ r → on_ok r (λ imm22. instr.Sethi imm22 (number_of_register rd)) ≡ Ok i → is_encodable i ≡ true
    go (Err e) f k = absurd (cc)
    go (Ok m) f k = let same : instr.Sethi m (number_of_register rd) ≡ i = cc in rw (← same, reg rd, upper_fits names line value m f) refl
instruction_fits names line at (instruction.Unimp n) i p h = go (below (2 ^ 22) n) refl h
  where
    go : (r : Result ℕ LineFault) → below (2 ^ 22) n ≡ r → on_ok r instr.Unimp ≡ Ok i → is_encodable i ≡ true
    go (Err e) f k = absurd (cc)
    go (Ok m) f k = let same : instr.Unimp m ≡ i = cc in rw (← same) (below_bound (2 ^ 22) n m f)

-- ---- statements

encodes : (i : Instr) → is_encodable i ≡ true → is_some (encoding i) ≡ true
encodes i h = encodes_in_range i ∙ h

set_fits : (names : Names) (line : ℕ) (v : Option ℤ) (e : Expr) (rd : Register) (is : List Instr) → set_instructions v (word_of names line e) (number_of_register rd) ≡ Ok is → list_all (λ i. is_some (encoding i)) is ≡ true
unfolding is_encodable
set_fits names line v e rd is h = by_value v h
  where
    high : (w : ℕ) → w < 2 ^ 32 → is_some (encoding (set_high w (number_of_register rd))) ≡ true
    high w small =
        let g : w / 1024 < 4194304 = omega (arith, small) in
        let k : nat_lt (w / 1024) 4194304 ≡ true = grind (arith, nat_tests) in
        encodes (set_high w (number_of_register rd)) (rw (reg rd, k) refl)

    low : (w : ℕ) → is_some (encoding (set_low w (number_of_register rd))) ≡ true
    low w = encodes (set_low w (number_of_register rd)) (rw (reg rd, low_fits w) refl)

    long : (alone : Bool) (r : Result ℕ LineFault) → word_of names line e ≡ r → on_ok r (set_long alone (number_of_register rd)) ≡ Ok is → list_all (λ i. is_some (encoding i)) is ≡ true
    long alone (Err x) f k = absurd (cc)
    long true (Ok w) f k =
        let same : set_high w (number_of_register rd) ∷ [] ≡ is = cc in
        rw (← same, high w (word_fits (value_of names line e) w f)) refl
    long false (Ok w) f k =
        let same : set_high w (number_of_register rd) ∷ set_low w (number_of_register rd) ∷ [] ≡ is = cc in
        rw (← same, high w (word_fits (value_of names line e) w f), low w) refl

    short : (b : Bool) (z : ℤ) → is_outside (neg_ℤ (pos 4096)) (pos 4095) z ≡ b → cond (not b) (Ok (set_short z (number_of_register rd) ∷ [])) (on_ok (word_of names line e) (set_long (has_no_low_bits z) (number_of_register rd))) ≡ Ok is
        → list_all (λ i. is_some (encoding i)) is ≡ true
    short true z f k = long (has_no_low_bits z) (word_of names line e) refl k
    short false z f k =
        let same : set_short z (number_of_register rd) ∷ [] ≡ is = cc in
        let n = neither (lt_z z (neg_ℤ (pos 4096))) (lt_z (pos 4095) z) f in
        rw (← same, encodes (set_short z (number_of_register rd)) (rw (reg rd, simm13 z n.0 n.1) refl)) refl

    by_value : (v : Option ℤ) → set_instructions v (word_of names line e) (number_of_register rd) ≡ Ok is → list_all (λ i. is_some (encoding i)) is ≡ true
    by_value None k = long false (word_of names line e) refl k
    by_value (Some z) k = short (is_outside (neg_ℤ (pos 4096)) (pos 4095) z) z refl k

one : (r : Result Instr LineFault) (is : List Instr) → ((i : Instr) → r ≡ Ok i → is_encodable i ≡ true) → on_ok r (λ x. x ∷ []) ≡ Ok is → list_all (λ i. is_some (encoding i)) is ≡ true
one (Err e) is f h = absurd (cc)
one (Ok i) is f h = let same : i ∷ [] ≡ is = cc in rw (← same, encodes i (f i refl)) refl

none : (r : Result (List Instr) LineFault) (is : List Instr) → r ≡ Ok [] → r ≡ Ok is → list_all (λ i. is_some (encoding i)) is ≡ true
none r is f e = let same : [] ≡ is = cc in rw (← same) refl

pub values_fit_fields : ValuesFitFields
values_fit_fields (statement.Instruction i) line at names is p h = one (instruction_of names line at i) is (λ x. instruction_fits names line at i x p) h
values_fit_fields (statement.Set value rd) line at names is p h = set_fits names line (plain value) value rd is h
values_fit_fields (statement.Data w values) line at names is p h = none (Ok []) is refl h
values_fit_fields (statement.Ascii text) line at names is p h = none (Ok []) is refl h
values_fit_fields (statement.Motion m n) line at names is p h = none (Ok []) is refl h
values_fit_fields (statement.Equ name value) line at names is p h = none (Ok []) is refl h
