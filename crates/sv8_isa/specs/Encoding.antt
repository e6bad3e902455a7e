-- The word of an instruction, or none where a field is out of range.
use Rattle.std.specs.Prelude.{ℕ, ℤ, pos, negsuc, Bool, true, false, ◌+◌, ◌-◌, ◌*◌, ◌^◌, ◌&&◌, ◌==◌, nat_lt, if◌then◌else◌, Option, Some, None}
use Rattle.sv8_isa.specs.Table.{meaning}
use Rattle.sv8_isa.specs.declared.instr.Operand.{Operand}
use Rattle.sv8_isa.specs.declared.instr.Operand.TheVariants.{Register, Immediate}
use Rattle.sv8_isa.specs.declared.instr.Cond.{Cond}
use Rattle.sv8_isa.specs.declared.instr.Cond.TheVariants.{Never, Equal, LessOrEqual, Less, LessOrEqualUnsigned, CarrySet, Negative, OverflowSet, Always, NotEqual, Greater, GreaterOrEqual, GreaterUnsigned, CarryClear, Positive, OverflowClear}
use Rattle.sv8_isa.specs.declared.instr.ArithOp.{ArithOp}
use Rattle.sv8_isa.specs.declared.instr.ArithOp.TheVariants.{Add, And, Or, Xor, Sub, Andn, Orn, Xnor, Addx, Umul, Smul, Subx, Udiv, Sdiv}
use Rattle.sv8_isa.specs.declared.instr.TaggedOp.{TaggedOp}
use Rattle.sv8_isa.specs.declared.instr.TaggedOp.TheVariants.{TaddCc, TsubCc, TaddCcTv, TsubCcTv}
use Rattle.sv8_isa.specs.declared.instr.ShiftOp.{ShiftOp}
use Rattle.sv8_isa.specs.declared.instr.ShiftOp.TheVariants.{Sll, Srl, Sra}
use Rattle.sv8_isa.specs.declared.instr.StateRegister.{StateRegister}
use Rattle.sv8_isa.specs.declared.instr.StateRegister.TheVariants.{Y, Psr, Wim, Tbr}
use Rattle.sv8_isa.specs.declared.instr.MemoryOp.{MemoryOp}
use Rattle.sv8_isa.specs.declared.instr.MemoryOp.TheVariants.{Ld, Ldub, Lduh, Ldd, St, Stb, Sth, Std, Ldsb, Ldsh, Ldstub, Swap}
use Rattle.sv8_isa.specs.declared.instr.Instr.{Instr}
use Rattle.sv8_isa.specs.declared.instr.Instr.TheVariants.{Unimp, Bicc, Sethi, Call, Arith, Tagged, Mulscc, Shift, ReadState, Stbar, WriteState, Jmpl, Rett, Ticc, Flush, Save, Restore, Memory, Alternate, Fp, Cp, AltImm, Illegal}

-- ---- codes

-- field cond
abbrev pub cond_code : Cond → ℕ
cond_code Never = 0
cond_code Equal = 1
cond_code LessOrEqual = 2
cond_code Less = 3
cond_code LessOrEqualUnsigned = 4
cond_code CarrySet = 5
cond_code Negative = 6
cond_code OverflowSet = 7
cond_code Always = 8
cond_code NotEqual = 9
cond_code Greater = 10
cond_code GreaterOrEqual = 11
cond_code GreaterUnsigned = 12
cond_code CarryClear = 13
cond_code Positive = 14
cond_code OverflowClear = 15

-- op3 of the form that keeps the condition codes
abbrev pub arith_code : ArithOp → ℕ
arith_code Add = 0x00
arith_code And = 0x01
arith_code Or = 0x02
arith_code Xor = 0x03
arith_code Sub = 0x04
arith_code Andn = 0x05
arith_code Orn = 0x06
arith_code Xnor = 0x07
arith_code Addx = 0x08
arith_code Umul = 0x0A
arith_code Smul = 0x0B
arith_code Subx = 0x0C
arith_code Udiv = 0x0E
arith_code Sdiv = 0x0F

-- what setting the condition codes adds
abbrev pub cc_code : Bool → ℕ
cc_code false = 0
cc_code true = 0x10

-- op3 of tagged addition and subtraction
abbrev pub tagged_code : TaggedOp → ℕ
tagged_code TaddCc = 0x20
tagged_code TsubCc = 0x21
tagged_code TaddCcTv = 0x22
tagged_code TsubCcTv = 0x23

-- op3 of SLL, SRL and SRA
abbrev pub shift_code : ShiftOp → ℕ
shift_code Sll = 0x25
shift_code Srl = 0x26
shift_code Sra = 0x27

-- op3 of RDY to RDTBR
abbrev pub read_code : StateRegister → ℕ
read_code Y = 0x28
read_code Psr = 0x29
read_code Wim = 0x2A
read_code Tbr = 0x2B

-- op3 of WRY to WRTBR
abbrev pub write_code : StateRegister → ℕ
write_code Y = 0x30
write_code Psr = 0x31
write_code Wim = 0x32
write_code Tbr = 0x33

-- op3 of loads and stores; the alternate space form adds 10 (hexadecimal)
abbrev pub memory_code : MemoryOp → ℕ
memory_code Ld = 0x00
memory_code Ldub = 0x01
memory_code Lduh = 0x02
memory_code Ldd = 0x03
memory_code St = 0x04
memory_code Stb = 0x05
memory_code Sth = 0x06
memory_code Std = 0x07
memory_code Ldsb = 0x09
memory_code Ldsh = 0x0A
memory_code Ldstub = 0x0D
memory_code Swap = 0x0F

-- ---- fields

-- a number of k bits
unfoldable pub unsigned_bits : ℕ → ℕ → Option ℕ
unsigned_bits n k = if nat_lt n (2 ^ k) then Some n else None

-- the k bits of a number in two's complement
unfoldable pub signed_bits : ℤ → ℕ → Option ℕ
signed_bits (pos n) k = if nat_lt n (2 ^ (k - 1)) then Some n else None
signed_bits (negsuc n) k = if nat_lt n (2 ^ (k - 1)) then Some (2 ^ k - (n + 1)) else None

-- i and the field that it says, from the bits of an immediate number
abbrev pub immediate_source : Option ℕ → Option ℕ
immediate_source None = None
immediate_source (Some n) = Some (2 ^ 13 + n)

-- a number of k bits, with no sign
abbrev pub natural_bits : ℤ → ℕ → Option ℕ
natural_bits (pos n) k = unsigned_bits n k
natural_bits (negsuc n) k = None

-- bits 13 to 0: i, and rs2 or simm13
abbrev pub source_bits : Operand → Option ℕ
source_bits (Register r) = unsigned_bits r 5
source_bits (Immediate n) = immediate_source (signed_bits n 13)

-- the same where an immediate number has k bits and no sign
abbrev pub natural_source : ℕ → Operand → Option ℕ
natural_source k (Register r) = unsigned_bits r 5
natural_source k (Immediate n) = immediate_source (natural_bits n k)

-- ---- formats

-- op and disp30; the sum places each field
unfoldable pub format_call : ℕ → Option ℕ → Option ℕ
format_call o None = None
format_call o (Some disp) = Some (o * 2 ^ 30 + disp)

-- op 0: rd (or a and cond), op2, and imm22 or disp22
unfoldable pub format_2 : ℕ → ℕ → Option ℕ → Option ℕ
format_2 a code None = None
format_2 a code (Some imm) = if nat_lt a (2 ^ 5) then Some (a * 2 ^ 25 + code * 2 ^ 22 + imm) else None

-- op 2 and 3: rd, op3, rs1, and bits 13 to 0
unfoldable pub format_3 : ℕ → ℕ → ℕ → ℕ → Option ℕ → Option ℕ
format_3 o rd code rs1 None = None
format_3 o rd code rs1 (Some source) =
    if nat_lt rd (2 ^ 5) && nat_lt rs1 (2 ^ 5) then Some (o * 2 ^ 30 + rd * 2 ^ 25 + code * 2 ^ 19 + rs1 * 2 ^ 14 + source) else None

-- asi and rs2, with i = 0
unfoldable pub alternate_source : ℕ → ℕ → Option ℕ
alternate_source asi rs2 = if nat_lt asi (2 ^ 8) && nat_lt rs2 (2 ^ 5) then Some (asi * 2 ^ 5 + rs2) else None

-- a and cond of a branch
abbrev pub annul_code : Bool → ℕ
annul_code false = 0
annul_code true = 16

-- ---- instructions

-- the word w, where the second argument, its meaning, keeps it
abbrev pub fp_word : ℕ → Instr → Option ℕ
fp_word w (Fp v) = if v == w then Some w else None
fp_word w _ = None

-- the same of a coprocessor word
abbrev pub cp_word : ℕ → Instr → Option ℕ
cp_word w (Cp v) = if v == w then Some w else None
cp_word w _ = None

-- the word of an instruction; fields that it does not have are 0
unfoldable pub encoding : Instr → Option ℕ
encoding (Unimp imm22) = format_2 0 0 (unsigned_bits imm22 22)
encoding (Bicc cond annul disp22) = format_2 (annul_code annul + cond_code cond) 2 (signed_bits disp22 22)
encoding (Sethi imm22 rd) = format_2 rd 4 (unsigned_bits imm22 22)
encoding (Call disp30) = format_call 1 (signed_bits disp30 30)
encoding (Arith o cc rd rs1 source) = format_3 2 rd (arith_code o + cc_code cc) rs1 (source_bits source)
encoding (Tagged o rd rs1 source) = format_3 2 rd (tagged_code o) rs1 (source_bits source)
encoding (Mulscc rd rs1 source) = format_3 2 rd 0x24 rs1 (source_bits source)
encoding (Shift o rd rs1 count) = format_3 2 rd (shift_code o) rs1 (natural_source 5 count)
encoding (ReadState r rd) = format_3 2 rd (read_code r) 0 (Some 0)
encoding Stbar = format_3 2 0 0x28 15 (Some 0)
encoding (WriteState r rs1 source) = format_3 2 0 (write_code r) rs1 (source_bits source)
encoding (Jmpl rd rs1 source) = format_3 2 rd 0x38 rs1 (source_bits source)
encoding (Rett rs1 source) = format_3 2 0 0x39 rs1 (source_bits source)
encoding (Ticc cond rs1 source) = format_3 2 (cond_code cond) 0x3A rs1 (natural_source 7 source)
encoding (Flush rs1 source) = format_3 2 0 0x3B rs1 (source_bits source)
encoding (Save rd rs1 source) = format_3 2 rd 0x3C rs1 (source_bits source)
encoding (Restore rd rs1 source) = format_3 2 rd 0x3D rs1 (source_bits source)
encoding (Memory o rd rs1 source) = format_3 3 rd (memory_code o) rs1 (source_bits source)
encoding (Alternate o rd rs1 rs2 asi) = format_3 3 rd (memory_code o + 0x10) rs1 (alternate_source asi rs2)
encoding (Fp w) = fp_word w (meaning w)
encoding (Cp w) = cp_word w (meaning w)
encoding AltImm = None
encoding Illegal = None

-- ---- what can be encoded

-- one of 32 registers
abbrev pub is_register : ℕ → Bool
is_register r = nat_lt r 32

-- k bits hold it in two's complement
abbrev pub is_signed : ℤ → ℕ → Bool
is_signed (pos n) k = nat_lt n (2 ^ (k - 1))
is_signed (negsuc n) k = nat_lt n (2 ^ (k - 1))

-- k bits hold it with no sign
abbrev pub is_unsigned : ℤ → ℕ → Bool
is_unsigned (pos n) k = nat_lt n (2 ^ k)
is_unsigned (negsuc n) k = false

-- a register, or a simm13
abbrev pub is_source : Operand → Bool
is_source (Register r) = is_register r
is_source (Immediate n) = is_signed n 13

-- a register, or a number of k bits with no sign
abbrev pub is_natural : ℕ → Operand → Bool
is_natural k (Register r) = is_register r
is_natural k (Immediate n) = is_unsigned n k

-- the second argument is the floating-point word w
abbrev pub is_fp : ℕ → Instr → Bool
is_fp w (Fp v) = v == w
is_fp w _ = false

-- the second argument is the coprocessor word w
abbrev pub is_cp : ℕ → Instr → Bool
is_cp w (Cp v) = v == w
is_cp w _ = false

-- each field is in its range, and a word that is kept whole means what it is kept as
unfoldable pub is_encodable : Instr → Bool
is_encodable (Unimp imm22) = nat_lt imm22 (2 ^ 22)
is_encodable (Bicc cond annul disp22) = is_signed disp22 22
is_encodable (Sethi imm22 rd) = is_register rd && nat_lt imm22 (2 ^ 22)
is_encodable (Call disp30) = is_signed disp30 30
is_encodable (Arith o cc rd rs1 source) = is_register rd && is_register rs1 && is_source source
is_encodable (Tagged o rd rs1 source) = is_register rd && is_register rs1 && is_source source
is_encodable (Mulscc rd rs1 source) = is_register rd && is_register rs1 && is_source source
is_encodable (Shift o rd rs1 count) = is_register rd && is_register rs1 && is_natural 5 count
is_encodable (ReadState r rd) = is_register rd
is_encodable Stbar = true
is_encodable (WriteState r rs1 source) = is_register rs1 && is_source source
is_encodable (Jmpl rd rs1 source) = is_register rd && is_register rs1 && is_source source
is_encodable (Rett rs1 source) = is_register rs1 && is_source source
is_encodable (Ticc cond rs1 source) = is_register rs1 && is_natural 7 source
is_encodable (Flush rs1 source) = is_register rs1 && is_source source
is_encodable (Save rd rs1 source) = is_register rd && is_register rs1 && is_source source
is_encodable (Restore rd rs1 source) = is_register rd && is_register rs1 && is_source source
is_encodable (Memory o rd rs1 source) = is_register rd && is_register rs1 && is_source source
is_encodable (Alternate o rd rs1 rs2 asi) = is_register rd && is_register rs1 && (nat_lt asi 256 && is_register rs2)
is_encodable (Fp w) = is_fp w (meaning w)
is_encodable (Cp w) = is_cp w (meaning w)
is_encodable AltImm = false
is_encodable Illegal = false
