-- The operands of instructions, and the traps that a condition raises.
use Rattle.std.specs.Prelude.{ℕ, Bool, List, [], ◌∷◌, if◌then◌else◌}
use Rattle.sv8_isa.specs.declared.instr.Operand.{Operand}
use Rattle.sv8_isa.specs.declared.instr.Operand.TheVariants.{Register, Immediate}
use Rattle.sv8_model.specs.Words.{word_of_number}
use Rattle.sv8_regs.specs.Ring.{read}
use Rattle.sv8_trap.specs.declared.table.Trap.{Trap}
use Rattle.sv8_trap.specs.Processor.{Processor, plus}

-- the value of a second source: a register, or a number in the word
abbrev pub operand_value : ℕ → Processor → Operand → ℕ
operand_value windows p (Register r) = read windows p.registers r
operand_value windows p (Immediate n) = word_of_number n

-- r[rs1] plus the second source: an address, a target, or a trap number
unfoldable pub sum_of_sources : ℕ → Processor → ℕ → Operand → ℕ
sum_of_sources windows p rs1 operand = plus (read windows p.registers rs1) (operand_value windows p operand)

-- a trap, where a condition raises it
abbrev pub when : Bool → Trap → List Trap
when b t = if b then t ∷ [] else []
