-- What is true of every statement, and of a line's text.
use Rattle.std.specs.Prelude.{◌≡◌, ℕ, ◌≤◌, Bool, true, false, ◌&&◌, List, length, flat_map, Result, Ok, Err, IsOk}
use Rattle.std.specs.List.{AllZip, list_all}
use Rattle.std.specs.Option.{is_some}
use Rattle.std.specs.Result.{result_unwrap_or}
use Rattle.std.specs.Int.{w32, to_be_bytes}
use Rattle.sv8_isa.specs.Encoding.{encoding}
use Rattle.sv8_isa.specs.Table.{meaning}
use Rattle.sv8_isa.specs.declared.instr.Instr.{Instr}
use Rattle.sv8_statements.specs.declared.fault.LineFault.{LineFault}
use Rattle.sv8_statements.specs.declared.value.Imm.TheVariants as imm
use Rattle.sv8_statements.specs.declared.value.RegOrImm.{RegOrImm}
use Rattle.sv8_statements.specs.declared.value.RegOrImm.TheVariants as operand
use Rattle.sv8_statements.specs.declared.statement.Operation.{Operation}
use Rattle.sv8_statements.specs.declared.statement.Operation.TheVariants as operation
use Rattle.sv8_statements.specs.declared.statement.Instruction.TheVariants as instruction
use Rattle.sv8_statements.specs.declared.statement.Statement.TheVariants as statement
use Rattle.sv8_statements.specs.declared.statement.Statement.{Statement}
use Rattle.sv8_statements.specs.declared.statement.Stmt.{Stmt}
use Rattle.sv8_syntax.specs.Reading.{reading}
use Rattle.sv8_asm.specs.Names.{Names}
use Rattle.sv8_asm.specs.Size.{size}
use Rattle.sv8_asm.specs.Code.{bytes as line_code, instruction_bytes, instructions_of, statement_bytes}

-- what a statement places does not reach beyond the location behind it
abbrev pub BytesFitSize : Type 0
BytesFitSize = (s : Stmt) (line at : ℕ) (names : Names) (b : List ℕ) → IsOk (size s at) → line_code s line at names ≡ Ok b → length b ≤ result_unwrap_or (size s at) 0

-- the bytes of what was read, or its fault
abbrev pub bytes_of_reading : Result Stmt LineFault → ℕ → ℕ → Names → Result (List ℕ) LineFault
bytes_of_reading (Ok s) line at names = line_code s line at names
bytes_of_reading (Err e) line at names = Err e

-- the bytes of a line of text at a location
abbrev pub line_bytes : List ℕ → ℕ → ℕ → Names → Result (List ℕ) LineFault
line_bytes text line at names = bytes_of_reading (reading text) line at names

-- how far a line of text moves the location
abbrev pub size_of_reading : Result Stmt LineFault → ℕ → Result ℕ LineFault
size_of_reading (Ok s) at = size s at
size_of_reading (Err e) at = Err e

abbrev pub line_size : List ℕ → ℕ → Result ℕ LineFault
line_size text at = size_of_reading (reading text) at

-- words that stand for instructions, one after another, and their bytes, the most significant of each first
pub record AreWordsOf (is : List Instr) (b : List ℕ) : Type 0 where
  pub words : List ℕ
  pub decode : AllZip (λ w i. meaning w ≡ i) words is
  pub bytes : b ≡ flat_map (to_be_bytes w32) words

-- what is placed for instructions are words of those instructions
abbrev pub InstructionsDecode : Type 0
InstructionsDecode = (is : List Instr) (b : List ℕ) → instruction_bytes is ≡ Ok b → AreWordsOf is b

-- each instruction that a statement without a fault stands for has a word
abbrev pub InstructionsEncode : Type 0
InstructionsEncode =
    (s : Statement) (line at : ℕ) (names : Names) (b : List ℕ) (is : List Instr) → statement_bytes s line at names ≡ Ok b → instructions_of names line at s ≡ Ok is
    → list_all (λ i. is_some (encoding i)) is ≡ true

-- ---- values that are in their ranges

-- a number in the place of the second source is a shift's count or a trap's number
abbrev pub is_count : Operation → Bool
is_count (operation.Shift o) = true
is_count (operation.Trap c) = true
is_count o = false

-- the second source is %lo
abbrev pub is_low : RegOrImm → Bool
is_low (operand.Immediate (imm.Low e)) = true
is_low s = false

-- a shift's count or a trap's number is %lo, whose 10 bits may be more than it takes
abbrev pub has_low_count : Statement → Bool
has_low_count (statement.Instruction (instruction.Format3 o rd rs1 s)) = is_count o && is_low s
has_low_count s = false

-- of any other statement, each instruction that it stands for has a word: the ranges of values are those of the fields
abbrev pub ValuesFitFields : Type 0
ValuesFitFields =
    (s : Statement) (line at : ℕ) (names : Names) (is : List Instr) → has_low_count s ≡ false → instructions_of names line at s ≡ Ok is
    → list_all (λ i. is_some (encoding i)) is ≡ true
