-- The forms: the statement of each shape with its operands. The grammar and the reader both use `form_of`.
use Rattle.std.specs.Prelude.{ℕ, List, [], ◌∷◌, Bool, true, false, Option, Some, None, if◌then◌else◌}
use Rattle.sv8_isa.specs.declared.instr.ArithOp.TheVariants as arith
use Rattle.sv8_isa.specs.declared.instr.Cond.{Cond}
use Rattle.sv8_isa.specs.declared.instr.MemoryOp.{MemoryOp}
use Rattle.sv8_isa.specs.declared.instr.ShiftOp.{ShiftOp}
use Rattle.sv8_isa.specs.declared.instr.MemoryOp.TheVariants as memory
use Rattle.sv8_forms.specs.declared.mnemonic.Directive.{Directive}
use Rattle.sv8_forms.specs.declared.mnemonic.Directive.TheVariants as directive
use Rattle.sv8_forms.specs.declared.mnemonic.Shape.{Shape}
use Rattle.sv8_forms.specs.declared.mnemonic.Shape.TheVariants as shape
use Rattle.sv8_statements.specs.declared.register.Register.{Register}
use Rattle.sv8_statements.specs.declared.register.Register.TheVariants as r
use Rattle.sv8_statements.specs.declared.value.Expr.TheVariants as expr
use Rattle.sv8_statements.specs.declared.value.Imm.TheVariants as imm
use Rattle.sv8_statements.specs.declared.value.RegOrImm.{RegOrImm}
use Rattle.sv8_statements.specs.declared.value.RegOrImm.TheVariants as source
use Rattle.sv8_statements.specs.declared.value.Upper.TheVariants as upper
use Rattle.sv8_statements.specs.declared.statement.Operation.{Operation}
use Rattle.sv8_statements.specs.declared.statement.Operation.TheVariants as operation
use Rattle.sv8_statements.specs.declared.statement.Instruction.{Instruction}
use Rattle.sv8_statements.specs.declared.statement.Instruction.TheVariants as instruction
use Rattle.sv8_statements.specs.declared.statement.Statement.{Statement}
use Rattle.sv8_statements.specs.declared.statement.Statement.TheVariants as statement
use Rattle.sv8_statements.specs.declared.statement.Motion.{Motion}
use Rattle.sv8_statements.specs.declared.statement.Width.{Width}
use Rattle.sv8_statements.specs.Operand.{Operand}
use Rattle.sv8_statements.specs.Steps.{◌>>=◌}
use Rattle.sv8_forms.specs.Taking.{register_in, source_in, imm_in, expr_in, number_in, count_in, place_in, is_bracketed, bracketed_in, starts_with_register, alternate_in, is_state, state_in, upper_in, trap_in, text_in, name_in, signed_in, exprs_in}

-- ---- instructions, by the number of operands

abbrev pub of_registers : Operation → Register → Register → Register → Instruction
of_registers o rd rs1 rs2 = instruction.Format3 o rd rs1 (source.Register rs2)

abbrev pub small : ℕ → RegOrImm
small n = source.Immediate (imm.Value (expr.Number n))

-- with the second source that an operand is
unfoldable pub with_source : Operation → Register → Register → Operand → Option Instruction
with_source op rd rs1 c = do
  x ← source_in c
  Some (instruction.Format3 op rd rs1 x)

-- with the address that an operand is, without brackets
unfoldable pub with_place : Operation → Register → Operand → Option Instruction
with_place op rd a = do
  x ← place_in a
  Some (instruction.Format3 op rd x.0 x.1)

-- with the address that an operand is, in brackets
unfoldable pub with_bracketed : Operation → Register → Operand → Option Instruction
with_bracketed op rd a = do
  x ← bracketed_in a
  Some (instruction.Format3 op rd x.0 x.1)

unfoldable pub none_of : Shape → Option Instruction
none_of (shape.Three operation.Save) = Some (of_registers operation.Save r.G0 r.G0 r.G0)
none_of (shape.Three operation.Restore) = Some (of_registers operation.Restore r.G0 r.G0 r.G0)
none_of shape.Nop = Some (instruction.Sethi (upper.Value (expr.Number 0)) r.G0)
none_of (shape.Return a) = Some (instruction.Format3 operation.Jmpl r.G0 a (small 8))
none_of shape.Stbar = Some (of_registers operation.Stbar r.G0 r.G0 r.G0)
none_of _ = None

-- call expr
unfoldable pub called : Operand → Option Instruction
called o = do
  e ← expr_in o
  Some (instruction.Call e)

-- call addr, where addr begins with a register, or call expr
unfoldable pub call_of : Operand → Option Instruction
call_of o = if starts_with_register o then with_place operation.Jmpl r.O7 o else called o

-- clr reg
unfoldable pub cleared : Operand → Option Instruction
cleared o = do
  rd ← register_in o
  Some (of_registers (operation.Arith arith.Or false) rd r.G0 r.G0)

-- clr [addr], clr reg
unfoldable pub clear_of : Operand → Option Instruction
clear_of o = if is_bracketed o then with_bracketed (operation.Memory memory.St) r.G0 o else cleared o

-- op expr, perhaps one that annuls
unfoldable pub branch_of : Cond → Bool → Operand → Option Instruction
branch_of c f o = do
  e ← expr_in o
  Some (instruction.Branch c f e)

unfoldable pub trap_of : Cond → Operand → Option Instruction
trap_of c o = do
  x ← trap_in o
  Some (instruction.Format3 (operation.Trap c) r.G0 x.0 x.1)

unfoldable pub unimp_of : Operand → Option Instruction
unimp_of o = do
  n ← number_in o
  Some (instruction.Unimp n)

-- tst reg
unfoldable pub test_of : Operation → Operand → Option Instruction
test_of op o = do
  rs2 ← register_in o
  Some (of_registers op r.G0 r.G0 rs2)

-- not reg, reg
unfoldable pub not_of : Operation → Operand → Operand → Option Instruction
not_of op a d = do
  rs1 ← register_in a
  rd ← register_in d
  Some (of_registers op rd rs1 r.G0)

-- neg reg, reg
unfoldable pub negate_of : Operation → Operand → Operand → Option Instruction
negate_of op a d = do
  rs2 ← register_in a
  rd ← register_in d
  Some (of_registers op rd r.G0 rs2)

-- inc reg
unfoldable pub step_by_one : Operation → Operand → Option Instruction
step_by_one op o = do
  rd ← register_in o
  Some (instruction.Format3 op rd rd (small 1))

-- not and neg with one operand take it for both; jmp, rett and flush have an address, clrb and clrh one in brackets
unfoldable pub one_of : Shape → Operand → Option Instruction
one_of (shape.Branch c f) a = branch_of c f a
one_of (shape.Trap c) a = trap_of c a
one_of shape.Call a = call_of a
one_of (shape.To op) a = with_place op r.G0 a
one_of shape.Unimp a = unimp_of a
one_of (shape.Test op) a = test_of op a
one_of (shape.Not op) a = not_of op a a
one_of (shape.Negate op) a = negate_of op a a
one_of (shape.Step op) a = step_by_one op a
one_of (shape.ClearAt m) a = with_bracketed (operation.Memory m) r.G0 a
one_of shape.Clear a = clear_of a
one_of _ a = None

-- a load or store: the register, and the address in brackets
unfoldable pub access : MemoryOp → Operand → Operand → Option Instruction
access m d a = do
  rd ← register_in d
  with_bracketed (operation.Memory m) rd a

unfoldable pub alternate_access : MemoryOp → Operand → Operand → Option Instruction
alternate_access m d a = do
  rd ← register_in d
  x ← alternate_in a
  Some (instruction.Alternate m rd x.0 x.1 x.2)

-- rd special, reg
unfoldable pub from_state : Operand → Operand → Option Instruction
from_state c d = do
  s ← state_in c
  rd ← register_in d
  Some (of_registers (operation.Read s) rd r.G0 r.G0)

-- mov reg_or_imm, special
unfoldable pub to_state : Operand → Operand → Option Instruction
to_state c d = do
  s ← state_in d
  with_source (operation.Write s) r.G0 r.G0 c

unfoldable pub moved : Operand → Operand → Option Instruction
moved c d = do
  rd ← register_in d
  with_source (operation.Arith arith.Or false) rd r.G0 c

unfoldable pub mov_of : Operand → Operand → Option Instruction
mov_of c d = if is_state c then from_state c d else (if is_state d then to_state c d else moved c d)

-- a register against a register or a value, for the condition codes alone
unfoldable pub compared : Operation → Operand → Operand → Option Instruction
compared o a c = do
  rs1 ← register_in a
  with_source o r.G0 rs1 c

unfoldable pub sethi_of : Operand → Operand → Option Instruction
sethi_of a d = do
  rd ← register_in d
  value ← upper_in a
  Some (instruction.Sethi value rd)

unfoldable pub jmpl_of : Operand → Operand → Option Instruction
jmpl_of a d = do
  rd ← register_in d
  with_place operation.Jmpl rd a

-- call with a number behind its target, which is ignored
unfoldable pub call_with_number : Operand → Operand → Option Instruction
call_with_number a n = do
  ignored ← number_in n
  call_of a

-- inc imm, reg
unfoldable pub step_of : Operation → Operand → Operand → Option Instruction
step_of op a d = do
  rd ← register_in d
  i ← imm_in a
  Some (instruction.Format3 op rd rd (source.Immediate i))

-- bset reg_or_imm, reg
unfoldable pub update_of : Operation → Operand → Operand → Option Instruction
update_of op c d = do
  rd ← register_in d
  with_source op rd rd c

unfoldable pub two_of : Shape → Operand → Operand → Option Instruction
two_of (shape.Load m) a d = access m d a
two_of (shape.Store m) d a = access m d a
two_of (shape.LoadAlternate m) a d = alternate_access m d a
two_of (shape.StoreAlternate m) d a = alternate_access m d a
two_of shape.Sethi a d = sethi_of a d
two_of shape.Read a d = from_state a d
two_of shape.Jmpl a d = jmpl_of a d
two_of shape.Call a n = call_with_number a n
two_of (shape.Not op) a d = not_of op a d
two_of (shape.Negate op) a d = negate_of op a d
two_of (shape.Step op) a d = step_of op a d
two_of (shape.Compare op) a c = compared op a c
two_of (shape.TestBits op) c a = compared op a c
two_of (shape.Update op) c d = update_of op c d
two_of shape.Mov c d = mov_of c d
two_of _ a d = None

-- op reg, reg_or_imm, reg
unfoldable pub three_fields : Operation → Operand → Operand → Operand → Option Instruction
three_fields op a c d = do
  rs1 ← register_in a
  rd ← register_in d
  with_source op rd rs1 c

unfoldable pub shift_of : ShiftOp → Operand → Operand → Operand → Option Instruction
shift_of op a c d = do
  rs1 ← register_in a
  rd ← register_in d
  x ← count_in c
  Some (instruction.Format3 (operation.Shift op) rd rs1 x)

-- wr reg, reg_or_imm, special
unfoldable pub write_of : Operand → Operand → Operand → Option Instruction
write_of a c d = do
  rs1 ← register_in a
  s ← state_in d
  with_source (operation.Write s) r.G0 rs1 c

unfoldable pub three_of : Shape → Operand → Operand → Operand → Option Instruction
three_of (shape.Three op) a c d = three_fields op a c d
three_of (shape.Shift op) a c d = shift_of op a c d
three_of shape.Write a c d = write_of a c d
three_of _ a c d = None

unfoldable pub instruction_of : Shape → List Operand → Option Instruction
instruction_of s [] = none_of s
instruction_of s (a ∷ []) = one_of s a
instruction_of s (a ∷ c ∷ []) = two_of s a c
instruction_of s (a ∷ c ∷ d ∷ []) = three_of s a c d
instruction_of s _ = None

-- ---- directives, and set

unfoldable pub set_of : List Operand → Option Statement
set_of (a ∷ d ∷ []) = do
  rd ← register_in d
  e ← expr_in a
  Some (statement.Set e rd)
set_of _ = None

unfoldable pub motion_of : Motion → List Operand → Option Statement
motion_of m (a ∷ []) = do
  n ← number_in a
  Some (statement.Motion m n)
motion_of m _ = None

-- one value or more
unfoldable pub data_of : Width → List Operand → Option Statement
data_of w [] = None
data_of w (o ∷ os) = do
  es ← exprs_in (o ∷ os)
  Some (statement.Data w es)

unfoldable pub ascii_of : List Operand → Option Statement
ascii_of (a ∷ []) = do
  t ← text_in a
  Some (statement.Ascii t)
ascii_of _ = None

unfoldable pub equ_of : List Operand → Option Statement
equ_of (a ∷ b ∷ []) = do
  value ← signed_in b
  w ← name_in a
  Some (statement.Equ w value)
equ_of _ = None

unfoldable pub directive_of : Directive → List Operand → Option Statement
directive_of directive.Set os = set_of os
directive_of (directive.Motion m) os = motion_of m os
directive_of (directive.Data w) os = data_of w os
directive_of directive.Ascii os = ascii_of os
directive_of directive.Equ os = equ_of os

-- ---- all forms

unfoldable pub directive_in : Shape → Option Directive
directive_in (shape.Directive d) = Some d
directive_in _ = None

abbrev pub directive_or_instruction : Option Directive → Shape → List Operand → Option Statement
directive_or_instruction (Some d) s os = directive_of d os
directive_or_instruction None s os = instruction_of s os >>= λ i. Some (statement.Instruction i)

-- the statement of a shape with these operands
unfoldable pub form_of : Shape → List Operand → Option Statement
form_of s os = directive_or_instruction (directive_in s) s os

-- a branch that annuls, for one that does not
unfoldable pub annulled : Shape → Option Shape
annulled (shape.Branch c false) = Some (shape.Branch c true)
annulled _ = None
