-- The names that a statement uses, and where two tables of names agree on them.
use Rattle.std.specs.Prelude.{ℕ, ℤ, Bool, true, false, List, [], ◌∷◌, Option, Some, None}
use Rattle.std.specs.List.{list_any, list_all}
use Rattle.std.specs.Ordering.{int_eq}
use Rattle.std.specs.Str.{bytes_eq}
use Rattle.sv8_statements.specs.declared.value.Expr.{Expr}
use Rattle.sv8_statements.specs.declared.value.Expr.TheVariants as expr
use Rattle.sv8_statements.specs.declared.value.Imm.TheVariants as imm
use Rattle.sv8_statements.specs.declared.value.RegOrImm.{RegOrImm}
use Rattle.sv8_statements.specs.declared.value.RegOrImm.TheVariants as operand
use Rattle.sv8_statements.specs.declared.value.Upper.{Upper}
use Rattle.sv8_statements.specs.declared.value.Upper.TheVariants as upper
use Rattle.sv8_statements.specs.declared.statement.Instruction.{Instruction}
use Rattle.sv8_statements.specs.declared.statement.Instruction.TheVariants as instruction
use Rattle.sv8_statements.specs.declared.statement.Statement.{Statement}
use Rattle.sv8_statements.specs.declared.statement.Statement.TheVariants as statement
use Rattle.sv8_statements.specs.declared.statement.Stmt.{Stmt}
use Rattle.sv8_asm.specs.Names.{Names, get}

-- ---- the expressions of a statement

abbrev pub source_exprs : RegOrImm → List Expr
source_exprs (operand.Register r) = []
source_exprs (operand.Immediate (imm.Value e)) = e ∷ []
source_exprs (operand.Immediate (imm.Low e)) = e ∷ []

abbrev pub upper_exprs : Upper → List Expr
upper_exprs (upper.Value e) = e ∷ []
upper_exprs (upper.High e) = e ∷ []

abbrev pub instruction_exprs : Instruction → List Expr
instruction_exprs (instruction.Format3 o rd rs1 s) = source_exprs s
instruction_exprs (instruction.Alternate o rd rs1 rs2 asi) = []
instruction_exprs (instruction.Branch cond annul target) = target ∷ []
instruction_exprs (instruction.Call target) = target ∷ []
instruction_exprs (instruction.Sethi value rd) = upper_exprs value
instruction_exprs (instruction.Unimp n) = []

abbrev pub statement_exprs : Statement → List Expr
statement_exprs (statement.Instruction i) = instruction_exprs i
statement_exprs (statement.Set value rd) = value ∷ []
statement_exprs (statement.Data w values) = values
statement_exprs (statement.Ascii text) = []
statement_exprs (statement.Motion m n) = []
statement_exprs (statement.Equ name value) = value ∷ []

abbrev pub exprs_of : Option Statement → List Expr
exprs_of None = []
exprs_of (Some s) = statement_exprs s

-- the expressions of a line, in order
unfoldable pub exprs : Stmt → List Expr
exprs s = exprs_of s.statement

-- ---- names

-- an expression has the name, or the reference to a local label
abbrev pub has_name : List ℕ → Expr → Bool
has_name name (expr.Name w) = bytes_eq w name
has_name name (expr.Plus w n) = bytes_eq w name
has_name name (expr.Less w n) = bytes_eq w name
has_name name e = false

-- one of the expressions of a line has it
unfoldable pub uses : Stmt → List ℕ → Bool
uses s name = list_any (has_name name) (exprs s)

-- ---- two tables of names

abbrev pub is_same : Option ℤ → Option ℤ → Bool
is_same None None = true
is_same (Some v) (Some u) = int_eq v u
is_same _ _ = false

-- the name of an expression, if it has one, stands for the same in two tables, each asked in a line
abbrev pub agree_on : Names → ℕ → Names → ℕ → Expr → Bool
agree_on names line others other (expr.Name w) = is_same (get names w line) (get others w other)
agree_on names line others other (expr.Plus w n) = is_same (get names w line) (get others w other)
agree_on names line others other (expr.Less w n) = is_same (get names w line) (get others w other)
agree_on names line others other e = true

-- all names that a statement uses do
unfoldable pub agree : Stmt → Names → ℕ → Names → ℕ → Bool
agree s names line others other = list_all (agree_on names line others other) (exprs s)
