-- Operands: what stands between two commas, with values as statements have them.
use Rattle.std.specs.Prelude.{ℕ, List, map}
use Rattle.sv8_isa.specs.declared.instr.StateRegister.{StateRegister}
use Rattle.sv8_statements.specs.Address.{Address, One, Sum, Less, After}
use Rattle.sv8_statements.specs.declared.value.Expr.{Expr}
use Rattle.sv8_statements.specs.declared.value.Expr.TheVariants as expr
use Rattle.sv8_statements.specs.declared.value.Imm.{Imm}
use Rattle.sv8_statements.specs.declared.value.Imm.TheVariants as imm
use Rattle.sv8_statements.specs.declared.value.RegOrImm.{RegOrImm}
use Rattle.sv8_statements.specs.declared.value.RegOrImm.TheVariants as source
use Rattle.sv8_statements.specs.declared.operand.ExprRef.{ExprRef}
use Rattle.sv8_statements.specs.declared.operand.ExprRef.TheVariants as expr_ref
use Rattle.sv8_statements.specs.declared.operand.ImmRef.{ImmRef}
use Rattle.sv8_statements.specs.declared.operand.ImmRef.TheVariants as imm_ref
use Rattle.sv8_statements.specs.declared.operand.RegOrImmRef.{RegOrImmRef}
use Rattle.sv8_statements.specs.declared.operand.RegOrImmRef.TheVariants as source_ref
use Rattle.sv8_statements.specs.declared.operand.Address.{Address as AddressRef}
use Rattle.sv8_statements.specs.declared.operand.Address.TheVariants as address_ref
use Rattle.sv8_statements.specs.declared.operand.Operand.{Operand as OperandRef}
use Rattle.sv8_statements.specs.declared.operand.Operand.TheVariants as operand_ref

-- an address, which a register or a value alone is too; one in brackets, perhaps with a number behind; %hi(..); a state
-- register; a text between quotes
pub data Operand : Type 0 where
  Plain : Address → Operand
  Bracketed : Address → Operand
  Alternate : Address → ℕ → Operand
  High : Expr → Operand
  State : StateRegister → Operand
  Quoted : List ℕ → Operand

-- ---- the operands of the code, without where their names lie

abbrev pub expr_view : ExprRef → Expr
expr_view (expr_ref.Number n) = expr.Number n
expr_view (expr_ref.Minus n) = expr.Minus n
expr_view (expr_ref.Name w) = expr.Name w.now
expr_view (expr_ref.Plus w n) = expr.Plus w.now n
expr_view (expr_ref.Less w n) = expr.Less w.now n

abbrev pub imm_view : ImmRef → Imm
imm_view (imm_ref.Value e) = imm.Value (expr_view e)
imm_view (imm_ref.Low e) = imm.Low (expr_view e)

abbrev pub source_view : RegOrImmRef → RegOrImm
source_view (source_ref.Register r) = source.Register r
source_view (source_ref.Immediate i) = source.Immediate (imm_view i)

abbrev pub address_view : AddressRef → Address
address_view (address_ref.One c) = One (source_view c)
address_view (address_ref.Sum r c) = Sum r (source_view c)
address_view (address_ref.Less r n) = Less r n
address_view (address_ref.After i r) = After (imm_view i) r

abbrev pub operand_view : OperandRef → Operand
operand_view (operand_ref.Plain a) = Plain (address_view a)
operand_view (operand_ref.Bracketed a) = Bracketed (address_view a)
operand_view (operand_ref.Alternate a n) = Alternate (address_view a) n
operand_view (operand_ref.High e) = High (expr_view e)
operand_view (operand_ref.State s) = State s
operand_view (operand_ref.Quoted q) = Quoted q.now

abbrev pub operand_views : List OperandRef → List Operand
operand_views os = map operand_view os
