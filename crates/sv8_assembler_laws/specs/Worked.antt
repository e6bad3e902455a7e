-- Short words for the lines that are worked out.
use Rattle.std.specs.Prelude.{◌≡◌, ℕ, List, Some, None, Result, Ok, Err}
use Rattle.std.specs.List.{AllByRecursion}
use Rattle.sv8_statements.specs.declared.fault.LineFault.{LineFault}
use Rattle.sv8_statements.specs.declared.fault.LineFault.TheVariants.{Syntax}
use Rattle.sv8_statements.specs.declared.value.Expr.{Expr}
use Rattle.sv8_statements.specs.declared.value.Imm.TheVariants as imm
use Rattle.sv8_statements.specs.declared.value.RegOrImm.{RegOrImm}
use Rattle.sv8_statements.specs.declared.value.RegOrImm.TheVariants as source
use Rattle.sv8_statements.specs.declared.statement.Instruction.{Instruction}
use Rattle.sv8_statements.specs.declared.statement.Statement.{Statement}
use Rattle.sv8_statements.specs.declared.statement.Statement.TheVariants as statement
use Rattle.sv8_statements.specs.declared.statement.Stmt.{Stmt}
use Rattle.sv8_syntax.specs.Grammar.{line}
use Rattle.sv8_syntax.specs.Reading.{reading}

abbrev pub value : Expr → RegOrImm
value e = source.Immediate (imm.Value e)

-- a line of that statement, without a label
abbrev pub states : Statement → Result Stmt LineFault
states s = Ok (line None (Some s))

abbrev pub instructs : Instruction → Result Stmt LineFault
instructs i = states (statement.Instruction i)

abbrev pub AreRefused : List (List ℕ) → Type 0
AreRefused texts = AllByRecursion (λ text. reading text ≡ Err Syntax) texts
