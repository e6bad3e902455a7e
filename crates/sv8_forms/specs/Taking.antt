-- What an operand is taken as.
use Rattle.std.specs.Prelude.{ℕ, List, [], ◌∷◌, Bool, true, false, Option, Some, None, if◌then◌else◌}
use Rattle.sv8_isa.specs.declared.instr.StateRegister.{StateRegister}
use Rattle.sv8_statements.specs.declared.register.Register.{Register}
use Rattle.sv8_statements.specs.declared.register.Register.TheVariants as r
use Rattle.sv8_statements.specs.declared.value.Expr.{Expr}
use Rattle.sv8_statements.specs.declared.value.Expr.TheVariants as expr
use Rattle.sv8_statements.specs.declared.value.Imm.{Imm}
use Rattle.sv8_statements.specs.declared.value.Imm.TheVariants as imm
use Rattle.sv8_statements.specs.declared.value.RegOrImm.{RegOrImm}
use Rattle.sv8_statements.specs.declared.value.RegOrImm.TheVariants as source
use Rattle.sv8_statements.specs.declared.value.Upper.{Upper}
use Rattle.sv8_statements.specs.declared.value.Upper.TheVariants as upper
use Rattle.sv8_statements.specs.Address.{Address}
use Rattle.sv8_statements.specs.Operand.{Operand}
use Rattle.sv8_statements.specs.Address as address
use Rattle.sv8_statements.specs.Operand as operand
use Rattle.sv8_statements.specs.Names.{is_reference}
use Rattle.sv8_statements.specs.Steps.{◌>>=◌}
use Rattle.sv8_forms.specs.Escapes.{resolved}

unfoldable pub register_in : Operand → Option Register
register_in (operand.Plain (address.One (source.Register a))) = Some a
register_in _ = None

-- a register or an immediate value
unfoldable pub source_in : Operand → Option RegOrImm
source_in (operand.Plain (address.One c)) = Some c
source_in _ = None

unfoldable pub imm_in : Operand → Option Imm
imm_in (operand.Plain (address.One (source.Immediate i))) = Some i
imm_in _ = None

unfoldable pub expr_in : Operand → Option Expr
expr_in (operand.Plain (address.One (source.Immediate (imm.Value e)))) = Some e
expr_in _ = None

unfoldable pub number_of : Expr → Option ℕ
number_of (expr.Number n) = Some n
number_of _ = None

-- a number without a sign
unfoldable pub number_in : Operand → Option ℕ
number_in o = do
  e ← expr_in o
  number_of e

-- not %lo(..)
unfoldable pub is_short : RegOrImm → Bool
is_short (source.Immediate (imm.Low e)) = false
is_short _ = true

-- a register or an expression
unfoldable pub count_in : Operand → Option RegOrImm
count_in o = do
  c ← source_in o
  if is_short c then Some c else None

-- rs1 and the second source of an address
unfoldable pub fields_of : Address → Register × RegOrImm
fields_of (address.One (source.Register a)) = (a, source.Register r.G0)
fields_of (address.One (source.Immediate i)) = (r.G0, source.Immediate i)
fields_of (address.Sum a c) = (a, c)
fields_of (address.Less a n) = (a, source.Immediate (imm.Value (expr.Minus n)))
fields_of (address.After i a) = (a, source.Immediate i)

-- an address without brackets, also a register or a value alone
unfoldable pub place_in : Operand → Option (Register × RegOrImm)
place_in (operand.Plain a) = Some (fields_of a)
place_in _ = None

unfoldable pub is_bracketed : Operand → Bool
is_bracketed (operand.Bracketed a) = true
is_bracketed _ = false

-- an address in brackets
unfoldable pub bracketed_in : Operand → Option (Register × RegOrImm)
bracketed_in (operand.Bracketed a) = Some (fields_of a)
bracketed_in _ = None

-- an address that begins with a register
unfoldable pub starts_with_register : Operand → Bool
starts_with_register (operand.Plain (address.One (source.Register a))) = true
starts_with_register (operand.Plain (address.Sum a c)) = true
starts_with_register (operand.Plain (address.Less a n)) = true
starts_with_register _ = false

-- rs1, rs2 and asi
unfoldable pub alternate_in : Operand → Option (Register × Register × ℕ)
alternate_in (operand.Alternate (address.One (source.Register a)) n) = Some (a, r.G0, n)
alternate_in (operand.Alternate (address.Sum a (source.Register b)) n) = Some (a, b, n)
alternate_in _ = None

unfoldable pub is_state : Operand → Bool
is_state (operand.State s) = true
is_state _ = false

unfoldable pub state_in : Operand → Option StateRegister
state_in (operand.State s) = Some s
state_in _ = None

-- %hi(..), or an expression
unfoldable pub upper_in : Operand → Option Upper
upper_in (operand.High e) = Some (upper.High e)
upper_in (operand.Plain (address.One (source.Immediate (imm.Value e)))) = Some (upper.Value e)
upper_in _ = None

-- reg, reg + reg, reg + expr, expr
unfoldable pub is_trap : Address → Bool
is_trap (address.One c) = is_short c
is_trap (address.Sum a c) = is_short c
is_trap _ = false

unfoldable pub trap_in : Operand → Option (Register × RegOrImm)
trap_in (operand.Plain a) = if is_trap a then Some (fields_of a) else None
trap_in _ = None

-- the bytes of a text between quotes
unfoldable pub text_in : Operand → Option (List ℕ)
text_in (operand.Quoted q) = resolved false q
text_in _ = None

unfoldable pub name_of : Expr → Option (List ℕ)
name_of (expr.Name w) = if is_reference w then None else Some w
name_of _ = None

-- a name alone, which is no reference to a local label
unfoldable pub name_in : Operand → Option (List ℕ)
name_in o = do
  e ← expr_in o
  name_of e

unfoldable pub is_signed : Expr → Bool
is_signed (expr.Number n) = true
is_signed (expr.Minus n) = true
is_signed _ = false

-- a number, perhaps with a sign
unfoldable pub signed_in : Operand → Option Expr
signed_in o = do
  e ← expr_in o
  if is_signed e then Some e else None

unfoldable pub exprs_in : List Operand → Option (List Expr)
exprs_in [] = Some []
exprs_in (o ∷ os) = do
  e ← expr_in o
  es ← exprs_in os
  Some (e ∷ es)
