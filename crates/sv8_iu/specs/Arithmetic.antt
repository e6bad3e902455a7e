-- Arithmetic and logic (Appendices B.9, B.11 to B.19), by the formulas of sv8_alu.
use Rattle.std.specs.Prelude.{ℕ, ◌*◌, ◌%◌, ◌^◌, ◌==◌, Bool, true, false, List, [], Option, Some, None, if◌then◌else◌}
use Rattle.sv8_isa.specs.declared.instr.Operand.{Operand}
use Rattle.sv8_isa.specs.declared.instr.ArithOp.{ArithOp}
use Rattle.sv8_isa.specs.declared.instr.ArithOp.TheVariants as operation
use Rattle.sv8_isa.specs.declared.instr.TaggedOp.{TaggedOp}
use Rattle.sv8_isa.specs.declared.instr.TaggedOp.TheVariants.{TaddCc, TsubCc, TaddCcTv, TsubCcTv}
use Rattle.sv8_isa.specs.declared.instr.ShiftOp.{ShiftOp}
use Rattle.sv8_isa.specs.declared.instr.ShiftOp.TheVariants.{Sll, Srl, Sra}
use Rattle.sv8_alu.specs.Arithmetic.{sum_of, difference_of, tagged_sum_of, tagged_difference_of, product_of, signed_product_of, quotient_of, signed_quotient_of, step_of, shifted_by, logical_answer}
use Rattle.sv8_alu.specs.declared.Icc.{Icc}
use Rattle.sv8_alu.specs.declared.Answer.{Answer}
use Rattle.sv8_alu.specs.declared.Product.{Product}
use Rattle.sv8_alu.specs.declared.Step.{Step}
use Rattle.sv8_alu.specs.declared.Logical.TheVariants as logical
use Rattle.sv8_alu.specs.declared.ShiftForm.{ShiftForm}
use Rattle.sv8_alu.specs.declared.ShiftForm.TheVariants.{LeftLogical, RightLogical, RightArithmetic}
use Rattle.sv8_regs.specs.Ring.{read}
use Rattle.sv8_regs.specs.declared.Psr.{Psr}
use Rattle.sv8_regs.specs.declared.ConditionCodes.{ConditionCodes}
use Rattle.sv8_trap.specs.declared.table.Trap.{Trap}
use Rattle.sv8_trap.specs.declared.table.Trap.TheVariants.{TagOverflow, DivisionByZero}
use Rattle.sv8_trap.specs.Processor.{Processor, advanced, with_result, with_codes, with_y}
use Rattle.sv8_iu.specs.Operands.{operand_value, when}

-- ---- how an operation ends

-- the condition codes of a result
abbrev pub codes_of : Icc → ConditionCodes
codes_of icc = record { n = icc.n; z = icc.z; v = icc.v; c = icc.c }

-- the condition codes as they stand
abbrev pub icc_of_psr : Psr → Icc
icc_of_psr psr = record { n = psr.n; z = psr.z; v = psr.v; c = psr.c }

-- the result goes to rd; the condition codes are set where the instruction says so
unfoldable pub finished : ℕ → Processor → Bool → ℕ → Answer → Processor
finished windows p cc rd answer = with_result windows (if cc then with_codes p (codes_of answer.icc) else p) rd answer.value

-- the high word of a product goes to Y, the low one to rd
unfoldable pub finished_product : ℕ → Processor → Bool → ℕ → Product → Processor
finished_product windows p cc rd product = finished windows (with_y p product.high) cc rd product.low

-- a quotient goes to rd; a divisor of 0 has trapped before
abbrev pub finished_quotient : ℕ → Processor → Bool → ℕ → Option Answer → Processor
finished_quotient windows p cc rd None = advanced p
finished_quotient windows p cc rd (Some answer) = finished windows p cc rd answer

-- ---- the operations that have a cc form

-- with the values of both sources
unfoldable pub operated : ℕ → Processor → ArithOp → Bool → ℕ → ℕ → ℕ → Processor
operated windows p operation.Add cc rd x y = finished windows p cc rd (sum_of x y false)
operated windows p operation.Addx cc rd x y = finished windows p cc rd (sum_of x y p.registers.psr.c)
operated windows p operation.Sub cc rd x y = finished windows p cc rd (difference_of x y false)
operated windows p operation.Subx cc rd x y = finished windows p cc rd (difference_of x y p.registers.psr.c)
operated windows p operation.And cc rd x y = finished windows p cc rd (logical_answer logical.And x y)
operated windows p operation.Andn cc rd x y = finished windows p cc rd (logical_answer logical.Andn x y)
operated windows p operation.Or cc rd x y = finished windows p cc rd (logical_answer logical.Or x y)
operated windows p operation.Orn cc rd x y = finished windows p cc rd (logical_answer logical.Orn x y)
operated windows p operation.Xor cc rd x y = finished windows p cc rd (logical_answer logical.Xor x y)
operated windows p operation.Xnor cc rd x y = finished windows p cc rd (logical_answer logical.Xnor x y)
operated windows p operation.Umul cc rd x y = finished_product windows p cc rd (product_of x y)
operated windows p operation.Smul cc rd x y = finished_product windows p cc rd (signed_product_of x y)
operated windows p operation.Udiv cc rd x y = finished_quotient windows p cc rd (quotient_of p.registers.y x y)
operated windows p operation.Sdiv cc rd x y = finished_quotient windows p cc rd (signed_quotient_of p.registers.y x y)

abbrev pub arithmetic : ℕ → Processor → ArithOp → Bool → ℕ → ℕ → Operand → Processor
arithmetic windows p op cc rd rs1 operand = operated windows p op cc rd (read windows p.registers rs1) (operand_value windows p operand)

abbrev pub divides : ArithOp → Bool
divides operation.Udiv = true
divides operation.Sdiv = true
divides op = false

-- the divisions trap where the divisor is 0 (B.19)
abbrev pub arithmetic_traps : ℕ → Processor → ArithOp → Operand → List Trap
arithmetic_traps windows p op operand = if divides op then when (operand_value windows p operand == 0) DivisionByZero else []

-- ---- tagged arithmetic (B.14, B.16)

abbrev pub tagged_answer : TaggedOp → ℕ → ℕ → Answer
tagged_answer TaddCc x y = tagged_sum_of x y
tagged_answer TaddCcTv x y = tagged_sum_of x y
tagged_answer TsubCc x y = tagged_difference_of x y
tagged_answer TsubCcTv x y = tagged_difference_of x y

abbrev pub traps_on_overflow : TaggedOp → Bool
traps_on_overflow TaddCcTv = true
traps_on_overflow TsubCcTv = true
traps_on_overflow op = false

-- of both sources
unfoldable pub tagged_of : ℕ → Processor → TaggedOp → ℕ → Operand → Answer
tagged_of windows p op rs1 operand = tagged_answer op (read windows p.registers rs1) (operand_value windows p operand)

abbrev pub tagged : ℕ → Processor → TaggedOp → ℕ → ℕ → Operand → Processor
tagged windows p op rd rs1 operand = finished windows p true rd (tagged_of windows p op rs1 operand)

-- the TV forms trap where V would be set
abbrev pub tagged_traps : ℕ → Processor → TaggedOp → ℕ → Operand → List Trap
tagged_traps windows p op rs1 operand = if traps_on_overflow op then when (tagged_of windows p op rs1 operand).icc.v TagOverflow else []

-- ---- the multiply step (B.17)

abbrev pub stepped : ℕ → Processor → ℕ → Step → Processor
stepped windows p rd step = finished windows (with_y p step.y) true rd step.sum

unfoldable pub multiply_step : ℕ → Processor → ℕ → ℕ → Operand → Processor
multiply_step windows p rd rs1 operand =
    stepped windows p rd (step_of (read windows p.registers rs1) (operand_value windows p operand) p.registers.y (icc_of_psr p.registers.psr))

-- ---- shifts (B.12) and SETHI (B.9)

abbrev pub shift_form : ShiftOp → ShiftForm
shift_form Sll = LeftLogical
shift_form Srl = RightLogical
shift_form Sra = RightArithmetic

unfoldable pub shifted : ℕ → Processor → ShiftOp → ℕ → ℕ → Operand → Processor
shifted windows p op rd rs1 count = with_result windows p rd (shifted_by (shift_form op) (read windows p.registers rs1) (operand_value windows p count))

-- imm22 goes to the upper 22 bits of rd
abbrev pub upper_set : ℕ → Processor → ℕ → ℕ → Processor
upper_set windows p rd imm22 = with_result windows p rd (imm22 * 2 ^ 10 % 2 ^ 32)
