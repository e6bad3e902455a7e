-- When an instruction has a word.
use Rattle.std.proofs.Common.{◌≡◌, ℕ, ◌+◌, ◌^◌, ℤ, pos, negsuc, Bool, true, false, ◌&&◌, cond, nat_lt, Option, Some, None, refl, ap, sym, ◌∙◌}
use Rattle.std.specs.Option.{is_some}
use Rattle.std.proofs.Math.Bool.{and-true, and-false}
use Rattle.sv8_isa.specs.Encoding.{encoding, is_encodable, format_2, format_3, format_call, source_bits, natural_source, alternate_source, unsigned_bits, signed_bits, immediate_source, cond_code, annul_code, is_register, is_source, is_natural, is_signed, fp_word, cp_word, is_fp, is_cp, arith_code, cc_code, tagged_code, shift_code, read_code, write_code, memory_code}
use Rattle.sv8_assembler_laws.specs.WordLaws.{EncodesInRange}
use Rattle.sv8_isa.specs.Table.{meaning}
use Rattle.sv8_isa.specs.declared.instr.Operand.{Operand}
use Rattle.sv8_isa.specs.declared.instr.Operand.TheVariants.{Register, Immediate}
use Rattle.sv8_isa.specs.declared.instr.Cond.{Cond}
use Rattle.sv8_isa.specs.declared.instr.Cond.TheVariants.{Never}
use Rattle.sv8_isa.specs.declared.instr.Instr.{Instr}
use Rattle.sv8_isa.specs.declared.instr.Instr.TheVariants.{Unimp, Bicc, Sethi, Call, Arith, Tagged, Mulscc, Shift, ReadState, Stbar, WriteState, Jmpl, Rett, Ticc, Flush, Save, Restore, Memory, Alternate, Fp, Cp, AltImm, Illegal}

some_if : (t : Bool) (v : ℕ) → is_some (cond t (Some v) None) ≡ t
some_if true v = refl
some_if false v = refl

some_unsigned : (n k : ℕ) → is_some (unsigned_bits n k) ≡ nat_lt n (2 ^ k)
unfolding unsigned_bits
some_unsigned n k = some_if (nat_lt n (2 ^ k)) n

some_signed : (z : ℤ) (k : ℕ) → is_some (signed_bits z k) ≡ is_signed z k
unfolding signed_bits
some_signed (pos n) k = some_if _ _
some_signed (negsuc n) k = some_if _ _

some_immediate : (o : Option ℕ) → is_some (immediate_source o) ≡ is_some o
some_immediate None = refl
some_immediate (Some n) = refl

some_source : (x : Operand) → is_some (source_bits x) ≡ is_source x
some_source (Register r) = some_unsigned r 5
some_source (Immediate z) = some_immediate (signed_bits z 13) ∙ some_signed z 13

some_natural : (k : ℕ) (x : Operand) → is_some (natural_source k x) ≡ is_natural k x
some_natural k (Register r) = some_unsigned r 5
some_natural k (Immediate (pos n)) = some_immediate (unsigned_bits n k) ∙ some_unsigned n k
some_natural k (Immediate (negsuc n)) = refl

some_alternate : (a b : ℕ) → is_some (alternate_source a b) ≡ (nat_lt a 256 && is_register b)
unfolding alternate_source
some_alternate a b = some_if _ _

some_2 : (a c : ℕ) (s : Option ℕ) → is_some (format_2 a c s) ≡ (nat_lt a 32 && is_some s)
unfolding format_2
some_2 a c None = sym (and-false _)
some_2 a c (Some n) = some_if _ _ ∙ sym (and-true _)

some_3 : (o a c b : ℕ) (s : Option ℕ) (t : Bool) → is_some s ≡ t → is_some (format_3 o a c b s) ≡ (nat_lt a 32 && nat_lt b 32 && t)
unfolding format_3
some_3 o a c b None t e = rw (← e) (sym (and-false _))
some_3 o a c b (Some n) t e = rw (← e) (some_if _ _ ∙ sym (and-true _))

some_call : (o : ℕ) (s : Option ℕ) → is_some (format_call o s) ≡ is_some s
unfolding format_call
some_call o None = refl
some_call o (Some n) = refl

cond_register : (c : Cond) → nat_lt (cond_code c) 32 ≡ true
cond_register Never = refl
cond_register c = refl

branch_register : (c : Cond) (a : Bool) → nat_lt (annul_code a + cond_code c) 32 ≡ true
branch_register Never true = refl
branch_register Never false = refl
branch_register c true = refl
branch_register c false = refl

some_fp : (w : ℕ) (i : Instr) → is_some (fp_word w i) ≡ is_fp w i
some_fp w (Fp v) = some_if _ _
some_fp w i = refl

some_cp : (w : ℕ) (i : Instr) → is_some (cp_word w i) ≡ is_cp w i
some_cp w (Cp v) = some_if _ _
some_cp w i = refl

pub in_range : EncodesInRange
unfolding encoding is_encodable
in_range (Unimp n) = some_2 0 0 (unsigned_bits n 22) ∙ some_unsigned n 22
in_range (Bicc cond annul z) = some_2 (annul_code annul + cond_code cond) 2 (signed_bits z 22) ∙ rw (branch_register cond annul) (some_signed z 22)
in_range (Sethi n rd) = some_2 rd 4 (unsigned_bits n 22) ∙ ap (λ t. nat_lt rd 32 && t) (some_unsigned n 22)
in_range (Call z) = some_call 1 (signed_bits z 30) ∙ some_signed z 30
in_range (Arith o cc rd rs1 x) = some_3 2 rd (arith_code o + cc_code cc) rs1 (source_bits x) _ (some_source x)
in_range (Tagged o rd rs1 x) = some_3 2 rd (tagged_code o) rs1 (source_bits x) _ (some_source x)
in_range (Mulscc rd rs1 x) = some_3 2 rd 0x24 rs1 (source_bits x) _ (some_source x)
in_range (Shift o rd rs1 x) = some_3 2 rd (shift_code o) rs1 (natural_source 5 x) _ (some_natural 5 x)
in_range (ReadState r rd) = some_3 2 rd (read_code r) 0 (Some 0) true refl ∙ and-true _ ∙ and-true _
in_range Stbar = some_3 2 0 0x28 15 (Some 0) true refl
in_range (WriteState r rs1 x) = some_3 2 0 (write_code r) rs1 (source_bits x) _ (some_source x)
in_range (Jmpl rd rs1 x) = some_3 2 rd 0x38 rs1 (source_bits x) _ (some_source x)
in_range (Rett rs1 x) = some_3 2 0 0x39 rs1 (source_bits x) _ (some_source x)
in_range (Ticc cond rs1 x) = some_3 2 (cond_code cond) 0x3A rs1 (natural_source 7 x) _ (some_natural 7 x) ∙ rw (cond_register cond)
in_range (Flush rs1 x) = some_3 2 0 0x3B rs1 (source_bits x) _ (some_source x)
in_range (Save rd rs1 x) = some_3 2 rd 0x3C rs1 (source_bits x) _ (some_source x)
in_range (Restore rd rs1 x) = some_3 2 rd 0x3D rs1 (source_bits x) _ (some_source x)
in_range (Memory o rd rs1 x) = some_3 3 rd (memory_code o) rs1 (source_bits x) _ (some_source x)
in_range (Alternate o rd rs1 rs2 asi) = some_3 3 rd (memory_code o + 0x10) rs1 (alternate_source asi rs2) _ (some_alternate asi rs2)
in_range (Fp w) = some_fp w (meaning w)
in_range (Cp w) = some_cp w (meaning w)
in_range AltImm = refl
in_range Illegal = refl
