-- The bytes of a statement, with the encodings of Appendix B.
use Rattle.std.specs.Prelude.{ℕ, ℤ, pos, ◌%◌, ◌/◌, ◌^◌, ◌-◌, neg_ℤ, Bool, false, List, [], ◌∷◌, ◌++◌, nat_lt, Option, Some, None, Result, Ok, Err, if◌then◌else◌}
use Rattle.std.specs.Int.{w8, w16, w32, to_be_bytes}
use Rattle.sv8_isa.specs.Encoding.{encoding}
use Rattle.sv8_isa.specs.declared.instr.ArithOp.TheVariants as arith
use Rattle.sv8_isa.specs.declared.instr.Instr.{Instr}
use Rattle.sv8_isa.specs.declared.instr.Instr.TheVariants as instr
use Rattle.sv8_isa.specs.declared.instr.Operand.{Operand}
use Rattle.sv8_isa.specs.declared.instr.Operand.TheVariants as source
use Rattle.sv8_model.specs.Words.{low_bits}
use Rattle.sv8_statements.specs.Faults.{least}
use Rattle.sv8_statements.specs.Registers.{number_of_register}
use Rattle.sv8_statements.specs.declared.fault.LineFault.{LineFault}
use Rattle.sv8_statements.specs.declared.fault.LineFault.TheVariants.{OutOfRange}
use Rattle.sv8_statements.specs.declared.value.Expr.{Expr}
use Rattle.sv8_statements.specs.declared.value.Imm.{Imm}
use Rattle.sv8_statements.specs.declared.value.Imm.TheVariants as imm
use Rattle.sv8_statements.specs.declared.value.RegOrImm.{RegOrImm}
use Rattle.sv8_statements.specs.declared.value.RegOrImm.TheVariants as operand
use Rattle.sv8_statements.specs.declared.value.Upper.{Upper}
use Rattle.sv8_statements.specs.declared.value.Upper.TheVariants as upper
use Rattle.sv8_statements.specs.declared.statement.Operation.{Operation}
use Rattle.sv8_statements.specs.declared.statement.Operation.TheVariants as operation
use Rattle.sv8_statements.specs.declared.statement.Instruction.{Instruction}
use Rattle.sv8_statements.specs.declared.statement.Instruction.TheVariants as instruction
use Rattle.sv8_statements.specs.declared.statement.Width.{Width}
use Rattle.sv8_statements.specs.declared.statement.Width.TheVariants as width
use Rattle.sv8_statements.specs.declared.statement.Statement.{Statement}
use Rattle.sv8_statements.specs.declared.statement.Statement.TheVariants as statement
use Rattle.sv8_statements.specs.declared.statement.Stmt.{Stmt}
use Rattle.sv8_asm.specs.Names.{Names}
use Rattle.sv8_asm.specs.Size.{plain, fits_simm13, has_no_low_bits}
use Rattle.sv8_asm.specs.Value.{value_of, within, word_of, displacement, call_displacement, call_target}

-- a function of a value, where there is one
abbrev pub on_ok : {A B : Type 0} → Result A LineFault → (A → B) → Result B LineFault
on_ok (Ok v) f = Ok (f v)
on_ok (Err e) f = Err e

-- ---- operands

-- %lo: the low 10 bits of a word
abbrev pub low_part : ℕ → ℤ
low_part word = pos (word % 2 ^ 10)

-- the least and the greatest number that may stand in the place of the second source: a shift's count, a trap's number, or the field simm13
abbrev pub least_immediate : Operation → ℤ
least_immediate (operation.Shift o) = pos 0
least_immediate (operation.Trap c) = pos 0
least_immediate o = neg_ℤ (pos 4096)

abbrev pub most_immediate : Operation → ℤ
most_immediate (operation.Shift o) = pos 31
most_immediate (operation.Trap c) = pos 127
most_immediate o = pos 4095

-- the number in the place of the second source
abbrev pub immediate : Names → ℕ → Operation → Imm → Result ℤ LineFault
immediate names line o (imm.Value e) = within (least_immediate o) (most_immediate o) (value_of names line e)
immediate names line o (imm.Low e) = on_ok (word_of names line e) low_part

-- reg_or_imm: a register, or a number
abbrev pub second_source : Names → ℕ → Operation → RegOrImm → Result Operand LineFault
second_source names line o (operand.Register r) = Ok (source.Register (number_of_register r))
second_source names line o (operand.Immediate i) = on_ok (immediate names line o i) source.Immediate

-- a number that is not negative
abbrev pub magnitude : ℤ → ℕ
magnitude (pos n) = n
magnitude z = 0

-- the field imm22 of SETHI: a value of 22 bits, or %hi, a word without its low 10 bits
abbrev pub upper_bits : Names → ℕ → Upper → Result ℕ LineFault
upper_bits names line (upper.Value e) = on_ok (within (pos 0) (pos (2 ^ 22 - 1)) (value_of names line e)) magnitude
upper_bits names line (upper.High e) = on_ok (word_of names line e) (λ word. word / 2 ^ 10)

-- ---- instructions

-- an instruction of format 3, by its registers and its second source
abbrev pub format_3 : Operation → ℕ → ℕ → Operand → Instr
format_3 (operation.Arith o cc) rd rs1 second = instr.Arith o cc rd rs1 second
format_3 (operation.Tagged o) rd rs1 second = instr.Tagged o rd rs1 second
format_3 operation.Mulscc rd rs1 second = instr.Mulscc rd rs1 second
format_3 operation.Save rd rs1 second = instr.Save rd rs1 second
format_3 operation.Restore rd rs1 second = instr.Restore rd rs1 second
format_3 (operation.Shift o) rd rs1 second = instr.Shift o rd rs1 second
format_3 (operation.Memory o) rd rs1 second = instr.Memory o rd rs1 second
format_3 operation.Jmpl rd rs1 second = instr.Jmpl rd rs1 second
format_3 operation.Rett rd rs1 second = instr.Rett rs1 second
format_3 operation.Flush rd rs1 second = instr.Flush rs1 second
format_3 (operation.Trap c) rd rs1 second = instr.Ticc c rs1 second
format_3 (operation.Read r) rd rs1 second = instr.ReadState r rd
format_3 (operation.Write r) rd rs1 second = instr.WriteState r rs1 second
format_3 operation.Stbar rd rs1 second = instr.Stbar

-- a number below a bound, or it is out of range
abbrev pub below : ℕ → ℕ → Result ℕ LineFault
below bound n = if nat_lt n bound then Ok n else Err OutOfRange

-- the instruction in a line at a location
abbrev pub instruction_of : Names → ℕ → ℕ → Instruction → Result Instr LineFault
instruction_of names line at (instruction.Format3 o rd rs1 s) =
    on_ok (second_source names line o s) (format_3 o (number_of_register rd) (number_of_register rs1))
instruction_of names line at (instruction.Alternate o rd rs1 rs2 asi) =
    on_ok (below 256 asi) (instr.Alternate o (number_of_register rd) (number_of_register rs1) (number_of_register rs2))
instruction_of names line at (instruction.Branch cond annul target) = on_ok (displacement at (value_of names line target)) (instr.Bicc cond annul)
instruction_of names line at (instruction.Call target) = on_ok (call_displacement at (call_target names line target)) instr.Call
instruction_of names line at (instruction.Sethi value rd) = on_ok (upper_bits names line value) (λ imm22. instr.Sethi imm22 (number_of_register rd))
instruction_of names line at (instruction.Unimp n) = on_ok (below (2 ^ 22) n) instr.Unimp

-- ---- set

-- rd becomes a number of 13 bits: or %g0, number, rd
abbrev pub set_short : ℤ → ℕ → Instr
set_short v rd = instr.Arith arith.Or false rd 0 (source.Immediate v)

-- rd becomes the upper bits of a word: sethi %hi(word), rd
abbrev pub set_high : ℕ → ℕ → Instr
set_high word rd = instr.Sethi (word / 2 ^ 10) rd

-- and its lower bits: or rd, %lo(word), rd
abbrev pub set_low : ℕ → ℕ → Instr
set_low word rd = instr.Arith arith.Or false rd rd (source.Immediate (low_part word))

abbrev pub set_long : Bool → ℕ → ℕ → List Instr
set_long alone rd word = if alone then set_high word rd ∷ [] else set_high word rd ∷ set_low word rd ∷ []

-- what `set` stands for: one instruction for a plain number of 13 bits or one without low bits, else two
abbrev pub set_instructions : Option ℤ → Result ℕ LineFault → ℕ → Result (List Instr) LineFault
set_instructions None word rd = on_ok word (set_long false rd)
set_instructions (Some v) word rd = if fits_simm13 v then Ok (set_short v rd ∷ []) else on_ok word (set_long (has_no_low_bits v) rd)

-- ---- bytes

-- the bytes of a word, the most significant first, and those behind them; a word is missing only where a field is out of range
abbrev pub word_and : Option ℕ → Result (List ℕ) LineFault → Result (List ℕ) LineFault
word_and None rest = Err OutOfRange
word_and (Some word) (Ok rest) = Ok (to_be_bytes w32 word ++ rest)
word_and (Some word) (Err e) = Err e

-- the bytes of instructions, one after another
abbrev pub instruction_bytes : List Instr → Result (List ℕ) LineFault
instruction_bytes [] = Ok []
instruction_bytes (i ∷ is) = word_and (encoding i) (instruction_bytes is)

abbrev pub code : Result (List Instr) LineFault → Result (List ℕ) LineFault
code (Ok is) = instruction_bytes is
code (Err e) = Err e

-- ---- data

-- the numbers that a value in memory may be: those of its bits with a sign, and those without
abbrev pub least_datum : Width → ℤ
least_datum width.Byte = neg_ℤ (pos (2 ^ 7))
least_datum width.Half = neg_ℤ (pos (2 ^ 15))
least_datum width.Word = neg_ℤ (pos (2 ^ 31))

abbrev pub most_datum : Width → ℤ
most_datum width.Byte = pos (2 ^ 8 - 1)
most_datum width.Half = pos (2 ^ 16 - 1)
most_datum width.Word = pos (2 ^ 32 - 1)

-- the bytes of a value, the most significant first
abbrev pub datum_bytes : Width → ℤ → List ℕ
datum_bytes width.Byte v = to_be_bytes w8 (low_bits v 8)
datum_bytes width.Half v = to_be_bytes w16 (low_bits v 16)
datum_bytes width.Word v = to_be_bytes w32 (low_bits v 32)

abbrev pub datum : Names → ℕ → Width → Expr → Result (List ℕ) LineFault
datum names line w e = on_ok (within (least_datum w) (most_datum w) (value_of names line e)) (datum_bytes w)

-- bytes and those behind them, or the least of their faults
abbrev pub before : Result (List ℕ) LineFault → Result (List ℕ) LineFault → Result (List ℕ) LineFault
before (Ok first) (Ok rest) = Ok (first ++ rest)
before (Ok first) (Err e) = Err e
before (Err e) (Ok rest) = Err e
before (Err e) (Err f) = Err (least (Some e) f)

-- the bytes of values, one after another
unfoldable pub data_bytes : Names → ℕ → Width → List Expr → Result (List ℕ) LineFault
data_bytes names line w [] = Ok []
data_bytes names line w (e ∷ es) = before (datum names line w e) (data_bytes names line w es)

-- ---- statements

-- the instructions that a statement stands for, none for what is no instruction
abbrev pub instructions_of : Names → ℕ → ℕ → Statement → Result (List Instr) LineFault
instructions_of names line at (statement.Instruction i) = on_ok (instruction_of names line at i) (λ x. x ∷ [])
instructions_of names line at (statement.Set value rd) = set_instructions (plain value) (word_of names line value) (number_of_register rd)
instructions_of names line at s = Ok []

-- data, a text, or instructions
abbrev pub statement_bytes : Statement → ℕ → ℕ → Names → Result (List ℕ) LineFault
statement_bytes (statement.Data w values) line at names = data_bytes names line w values
statement_bytes (statement.Ascii text) line at names = Ok text
statement_bytes s line at names = code (instructions_of names line at s)

-- no statement places nothing
abbrev pub bytes_of_statement : Option Statement → ℕ → ℕ → Names → Result (List ℕ) LineFault
bytes_of_statement None line at names = Ok []
bytes_of_statement (Some s) line at names = statement_bytes s line at names

-- the bytes that a line's statement places from a location on, or its fault
unfoldable pub bytes : Stmt → ℕ → ℕ → Names → Result (List ℕ) LineFault
bytes s line at names = bytes_of_statement s.statement line at names
