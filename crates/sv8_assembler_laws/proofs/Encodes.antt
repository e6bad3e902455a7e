-- The instructions of a statement without a fault have words.
use Rattle.std.proofs.Common.{◌≡◌, ℕ, List, [], ◌∷◌, Option, Some, None, Result, Ok, Err, Bool, true, ◌&&◌, refl}
use Rattle.std.specs.List.{list_all}
use Rattle.std.specs.Option.{is_some}
use Rattle.sv8_isa.specs.Encoding.{encoding}
use Rattle.sv8_isa.specs.declared.instr.Instr.{Instr}
use Rattle.sv8_statements.specs.declared.fault.LineFault.{LineFault}
use Rattle.sv8_statements.specs.declared.statement.Statement.TheVariants as statement
use Rattle.sv8_statements.specs.Registers.{number_of_register}
use Rattle.sv8_asm.specs.Size.{plain}
use Rattle.sv8_asm.specs.Value.{word_of}
use Rattle.sv8_asm.specs.Code.{on_ok, instruction_of, set_instructions, word_and, instruction_bytes, code}
use Rattle.sv8_assembler_laws.specs.StatementLaws.{InstructionsEncode}

more : (w : Option ℕ) (rest : Result (List ℕ) LineFault) (others : Bool) (b : List ℕ) → ((c : List ℕ) → rest ≡ Ok c → others ≡ true) → word_and w rest ≡ Ok b → (is_some w && others) ≡ true
more None rest others b ih h = absurd (cc)
more (Some w) (Ok c) others b ih h = ih c refl
more (Some w) (Err e) others b ih h = absurd (cc)

all_encode : (is : List Instr) (b : List ℕ) → instruction_bytes is ≡ Ok b → list_all (λ i. is_some (encoding i)) is ≡ true
all_encode [] b h = refl
all_encode (i ∷ is) b h = more (encoding i) (instruction_bytes is) (list_all (λ i. is_some (encoding i)) is) b (all_encode is) h

of_code : (r : Result (List Instr) LineFault) (b : List ℕ) (is : List Instr) → code r ≡ Ok b → r ≡ Ok is → list_all (λ i. is_some (encoding i)) is ≡ true
of_code (Ok js) b is h e = let same : js ≡ is = cc in rw (← same) (all_encode js b h)
of_code (Err f) b is h e = absurd (cc)

none : (r : Result (List Instr) LineFault) (is : List Instr) → r ≡ Ok [] → r ≡ Ok is → list_all (λ i. is_some (encoding i)) is ≡ true
none r is f e = let same : [] ≡ is = cc in rw (← same) refl

pub instructions_encode : InstructionsEncode
instructions_encode (statement.Instruction i) line at names b is h e = of_code (on_ok (instruction_of names line at i) (λ x. x ∷ [])) b is h e
instructions_encode (statement.Set value rd) line at names b is h e = of_code (set_instructions (plain value) (word_of names line value) (number_of_register rd)) b is h e
instructions_encode (statement.Data w values) line at names b is h e = none (Ok []) is refl e
instructions_encode (statement.Ascii text) line at names b is h e = none (Ok []) is refl e
instructions_encode (statement.Motion m n) line at names b is h e = none (Ok []) is refl e
instructions_encode (statement.Equ name value) line at names b is h e = none (Ok []) is refl e
