-- The opcode table: a list of rows. A row fixes some fields of a word, and names others as operands.
use Rattle.std.specs.Prelude.{ℕ, Bool, ◌+◌, ◌*◌, ◌^◌, ◌==◌, ◌||◌, if◌then◌else◌, List, [], ◌∷◌, ◌++◌, Option, Some, None, find, map, nat_lt, true, false}
use Rattle.std.specs.List.{list_all}
use Rattle.sv8_model.specs.Words.{field, signed}
use Rattle.sv8_isa.specs.Operands.{operand_of, count_of, trap_number_of, condition_of}
use Rattle.sv8_isa.specs.declared.instr.Group.{Group}
use Rattle.sv8_isa.specs.declared.instr.Group.TheVariants as group
use Rattle.sv8_isa.specs.declared.instr.Operand.{Operand}
use Rattle.sv8_isa.specs.declared.instr.ArithOp.TheVariants.{Add, And, Or, Xor, Sub, Andn, Orn, Xnor, Addx, Umul, Smul, Subx, Udiv, Sdiv}
use Rattle.sv8_isa.specs.declared.instr.TaggedOp.TheVariants.{TaddCc, TsubCc, TaddCcTv, TsubCcTv}
use Rattle.sv8_isa.specs.declared.instr.ShiftOp.{ShiftOp}
use Rattle.sv8_isa.specs.declared.instr.ShiftOp.TheVariants.{Sll, Srl, Sra}
use Rattle.sv8_isa.specs.declared.instr.StateRegister.{StateRegister}
use Rattle.sv8_isa.specs.declared.instr.StateRegister.TheVariants.{Y, Psr, Wim, Tbr}
use Rattle.sv8_isa.specs.declared.instr.MemoryOp.{MemoryOp}
use Rattle.sv8_isa.specs.declared.instr.MemoryOp.TheVariants.{Ld, Ldub, Lduh, Ldd, St, Stb, Sth, Std, Ldsb, Ldsh, Ldstub, Swap}
use Rattle.sv8_isa.specs.declared.instr.Instr.{Instr}
use Rattle.sv8_isa.specs.declared.instr.Instr.TheVariants.{Unimp, Bicc, Sethi, Call, Arith, Tagged, Mulscc, Shift, ReadState, Stbar, WriteState, Jmpl, Rett, Ticc, Flush, Save, Restore, Memory, Alternate, Fp, Cp, AltImm, Illegal}

-- ---- fields

-- the fields of the formats
pub data Field : Type 0 where
  op op2 op3 rd rs1 rs2 i asi annul cond simm13 low5 low7 low19 imm22 disp30 : Field

-- the highest bit of a field
abbrev pub high : Field → ℕ
high op = 31
high op2 = 24
high op3 = 24
high rd = 29
high rs1 = 18
high rs2 = 4
high i = 13
high asi = 12
high annul = 29
high cond = 28
high simm13 = 12
high low5 = 4
high low7 = 6
high low19 = 18
high imm22 = 21
high disp30 = 29

-- its lowest bit
abbrev pub low : Field → ℕ
low op = 30
low op2 = 22
low op3 = 19
low rd = 25
low rs1 = 14
low rs2 = 0
low i = 13
low asi = 5
low annul = 29
low cond = 25
low simm13 = 0
low low5 = 0
low low7 = 0
low low19 = 0
low imm22 = 0
low disp30 = 0

-- the field of a word
abbrev pub value : Field → ℕ → ℕ
value f w = field w (high f) (low f)

-- ---- rows

-- a field with the value that it has
pub record Fixed : Type 0 where
  pub at : Field
  pub code : ℕ

-- a row: the fields that it fixes, those that it names in a word, and the instruction of that word
pub record Row : Type 0 where
  pub fixed : List Fixed
  pub named : ℕ → List Field
  pub instr : ℕ → Instr

-- field is value
infix 90 ◌is◌
abbrev pub ◌is◌ : Field → ℕ → Fixed
f is n = record { at = f; code = n }

-- a row of these parts
abbrev pub row : List Fixed → (ℕ → List Field) → (ℕ → Instr) → Row
row fixed named instr = record { fixed = fixed; named = named; instr = instr }

-- the word has the fixed fields of the row
abbrev pub fits : ℕ → Row → Bool
fits w r = list_all (λ f. value f.at w == f.code) r.fixed

-- i, and what it says the second source is: that field, or rs2
abbrev pub source : Field → ℕ → List Field
source f w = if value i w == 1 then i ∷ f ∷ [] else i ∷ rs2 ∷ []

-- ---- kinds of row, by their operands

-- op and op3; rd, rs1 and a second source
abbrev pub three : ℕ → ℕ → (ℕ → ℕ → Operand → Instr) → Row
three o code make = row (op is o ∷ op3 is code ∷ []) (λ w. rd ∷ rs1 ∷ source simm13 w) (λ w. make (value rd w) (value rs1 w) (operand_of w))

-- rs1 and a second source, rd being free
abbrev pub two : ℕ → (ℕ → Operand → Instr) → Row
two code make = row (op is 2 ∷ op3 is code ∷ []) (λ w. rs1 ∷ source simm13 w) (λ w. make (value rs1 w) (operand_of w))

-- rd, rs1 and a count
abbrev pub shift : ℕ → ShiftOp → Row
shift code o = row (op is 2 ∷ op3 is code ∷ []) (λ w. rd ∷ rs1 ∷ source low5 w) (λ w. Shift o (value rd w) (value rs1 w) (count_of w))

-- rd, the rest being free
abbrev pub read : ℕ → StateRegister → Row
read code r = row (op is 2 ∷ op3 is code ∷ []) (λ w. rd ∷ []) (λ w. ReadState r (value rd w))

-- an alternate space form with i = 0: rd, rs1, asi and rs2
abbrev pub alternate : ℕ → MemoryOp → Row
alternate code o =
    row (op is 3 ∷ op3 is code ∷ i is 0 ∷ []) (λ w. rd ∷ rs1 ∷ asi ∷ rs2 ∷ []) (λ w. Alternate o (value rd w) (value rs1 w) (value rs2 w) (value asi w))

-- an alternate space form with i = 1
abbrev pub alternate_immediate : ℕ → Row
alternate_immediate code = row (op is 3 ∷ op3 is code ∷ i is 1 ∷ []) (λ w. []) (λ w. AltImm)

-- a word kept whole
abbrev pub whole : ℕ → ℕ → (ℕ → Instr) → Row
whole o code make = row (op is o ∷ op3 is code ∷ []) (λ w. rd ∷ low19 ∷ []) (λ w. make w)

-- STDFQ and STDCQ, the stores of the queues of the floating-point unit and the coprocessor
abbrev pub store_fp_queue : Row
store_fp_queue = whole 3 0x26 Fp

abbrev pub store_cp_queue : Row
store_cp_queue = whole 3 0x36 Cp

-- ---- the table

-- every instruction
abbrev pub table : List Row
table =
    -- op 0
    row (op is 0 ∷ op2 is 0 ∷ []) (λ w. imm22 ∷ []) (λ w. Unimp (value imm22 w))
    ∷ row (op is 0 ∷ op2 is 2 ∷ []) (λ w. annul ∷ cond ∷ imm22 ∷ []) (λ w. Bicc (condition_of (value cond w)) (value annul w == 1) (signed (value imm22 w) 22))
    ∷ row (op is 0 ∷ op2 is 4 ∷ []) (λ w. rd ∷ imm22 ∷ []) (λ w. Sethi (value imm22 w) (value rd w))
    ∷ row (op is 0 ∷ op2 is 6 ∷ []) (λ w. rd ∷ imm22 ∷ []) (λ w. Fp w)
    ∷ row (op is 0 ∷ op2 is 7 ∷ []) (λ w. rd ∷ imm22 ∷ []) (λ w. Cp w)
    -- op 1
    ∷ row (op is 1 ∷ []) (λ w. disp30 ∷ []) (λ w. Call (signed (value disp30 w) 30))
    -- op 2
    ∷ three 2 0x00 (Arith Add false) ∷ three 2 0x10 (Arith Add true)
    ∷ three 2 0x01 (Arith And false) ∷ three 2 0x11 (Arith And true)
    ∷ three 2 0x02 (Arith Or false) ∷ three 2 0x12 (Arith Or true)
    ∷ three 2 0x03 (Arith Xor false) ∷ three 2 0x13 (Arith Xor true)
    ∷ three 2 0x04 (Arith Sub false) ∷ three 2 0x14 (Arith Sub true)
    ∷ three 2 0x05 (Arith Andn false) ∷ three 2 0x15 (Arith Andn true)
    ∷ three 2 0x06 (Arith Orn false) ∷ three 2 0x16 (Arith Orn true)
    ∷ three 2 0x07 (Arith Xnor false) ∷ three 2 0x17 (Arith Xnor true)
    ∷ three 2 0x08 (Arith Addx false) ∷ three 2 0x18 (Arith Addx true)
    ∷ three 2 0x0A (Arith Umul false) ∷ three 2 0x1A (Arith Umul true)
    ∷ three 2 0x0B (Arith Smul false) ∷ three 2 0x1B (Arith Smul true)
    ∷ three 2 0x0C (Arith Subx false) ∷ three 2 0x1C (Arith Subx true)
    ∷ three 2 0x0E (Arith Udiv false) ∷ three 2 0x1E (Arith Udiv true)
    ∷ three 2 0x0F (Arith Sdiv false) ∷ three 2 0x1F (Arith Sdiv true)
    ∷ three 2 0x20 (Tagged TaddCc)
    ∷ three 2 0x21 (Tagged TsubCc)
    ∷ three 2 0x22 (Tagged TaddCcTv)
    ∷ three 2 0x23 (Tagged TsubCcTv)
    ∷ three 2 0x24 Mulscc
    ∷ shift 0x25 Sll
    ∷ shift 0x26 Srl
    ∷ shift 0x27 Sra
    ∷ row (op is 2 ∷ op3 is 0x28 ∷ rs1 is 0 ∷ []) (λ w. rd ∷ []) (λ w. ReadState Y (value rd w))
    ∷ row (op is 2 ∷ op3 is 0x28 ∷ rs1 is 15 ∷ rd is 0 ∷ []) (λ w. []) (λ w. Stbar)
    ∷ read 0x29 Psr
    ∷ read 0x2A Wim
    ∷ read 0x2B Tbr
    ∷ row (op is 2 ∷ op3 is 0x30 ∷ rd is 0 ∷ []) (λ w. rs1 ∷ source simm13 w) (λ w. WriteState Y (value rs1 w) (operand_of w))
    ∷ two 0x31 (WriteState Psr)
    ∷ two 0x32 (WriteState Wim)
    ∷ two 0x33 (WriteState Tbr)
    ∷ whole 2 0x34 Fp
    ∷ whole 2 0x35 Fp
    ∷ whole 2 0x36 Cp
    ∷ whole 2 0x37 Cp
    ∷ three 2 0x38 Jmpl
    ∷ two 0x39 Rett
    ∷ row (op is 2 ∷ op3 is 0x3A ∷ []) (λ w. cond ∷ rs1 ∷ source low7 w) (λ w. Ticc (condition_of (value cond w)) (value rs1 w) (trap_number_of w))
    ∷ two 0x3B Flush
    ∷ three 2 0x3C Save
    ∷ three 2 0x3D Restore
    -- op 3
    ∷ three 3 0x00 (Memory Ld) ∷ alternate 0x10 Ld ∷ alternate_immediate 0x10
    ∷ three 3 0x01 (Memory Ldub) ∷ alternate 0x11 Ldub ∷ alternate_immediate 0x11
    ∷ three 3 0x02 (Memory Lduh) ∷ alternate 0x12 Lduh ∷ alternate_immediate 0x12
    ∷ three 3 0x03 (Memory Ldd) ∷ alternate 0x13 Ldd ∷ alternate_immediate 0x13
    ∷ three 3 0x04 (Memory St) ∷ alternate 0x14 St ∷ alternate_immediate 0x14
    ∷ three 3 0x05 (Memory Stb) ∷ alternate 0x15 Stb ∷ alternate_immediate 0x15
    ∷ three 3 0x06 (Memory Sth) ∷ alternate 0x16 Sth ∷ alternate_immediate 0x16
    ∷ three 3 0x07 (Memory Std) ∷ alternate 0x17 Std ∷ alternate_immediate 0x17
    ∷ three 3 0x09 (Memory Ldsb) ∷ alternate 0x19 Ldsb ∷ alternate_immediate 0x19
    ∷ three 3 0x0A (Memory Ldsh) ∷ alternate 0x1A Ldsh ∷ alternate_immediate 0x1A
    ∷ three 3 0x0D (Memory Ldstub) ∷ alternate 0x1D Ldstub ∷ alternate_immediate 0x1D
    ∷ three 3 0x0F (Memory Swap) ∷ alternate 0x1F Swap ∷ alternate_immediate 0x1F
    ∷ whole 3 0x20 Fp
    ∷ whole 3 0x21 Fp
    ∷ whole 3 0x23 Fp
    ∷ whole 3 0x24 Fp
    ∷ whole 3 0x25 Fp
    ∷ store_fp_queue
    ∷ whole 3 0x27 Fp
    ∷ whole 3 0x30 Cp
    ∷ whole 3 0x31 Cp
    ∷ whole 3 0x33 Cp
    ∷ whole 3 0x34 Cp
    ∷ whole 3 0x35 Cp
    ∷ store_cp_queue
    ∷ whole 3 0x37 Cp
    ∷ []

-- a word is one of the stores of a queue
abbrev pub is_queue_store : ℕ → Bool
is_queue_store w = fits w store_fp_queue || fits w store_cp_queue

-- where a word stands in the table: by op, and for op 2 by op3
unfoldable pub group_of : ℕ → Group
group_of w =
    if field w 31 30 == 0 then group.Format2 else
    (if field w 31 30 == 1 then group.Call else
    (if field w 31 30 == 3 then group.Memory else
    (if nat_lt (field w 24 19) 0x20 then group.Arithmetic else
    (if nat_lt (field w 24 19) 0x28 then group.Shift else group.Control))))

-- the first row that a word fits, and no word fits two
abbrev pub row_of : ℕ → Option Row
row_of w = find (fits w) table

-- the instruction of a row, or Illegal where there is none
abbrev pub instr_at : Option Row → ℕ → Instr
instr_at None w = Illegal
instr_at (Some r) w = r.instr w

-- the fields of a word, where op and op3 are known
abbrev pub given : ℕ → ℕ → ℕ → Field → ℕ
given o n w op = o
given o n w op3 = n
given o n w f = value f w

-- the first row that a word with this op and op3 fits
abbrev pub row_at : ℕ → ℕ → ℕ → Option Row
row_at o n w = find (λ r. list_all (λ f. given o n w f.at == f.code) r.fixed) table

-- what a word means
unfoldable pub meaning : ℕ → Instr
meaning w = instr_at (row_of w) w

-- the fields of a list, at their places
abbrev pub placed : ℕ → List Field → ℕ
placed w [] = 0
placed w (f ∷ fs) = value f w * 2 ^ low f + placed w fs

-- the fields that a row fixes or names, at their places
abbrev pub bits_at : Option Row → ℕ → ℕ
bits_at None w = 0
bits_at (Some r) w = placed w (map (λ f. f.at) r.fixed ++ r.named w)

-- the word with the bits set to 0 that its row neither fixes nor names
unfoldable pub canonical : ℕ → ℕ
canonical w = bits_at (row_of w) w
