-- What instructions ask of memory.
use Rattle.std.proofs.Common.{◌≡◌, ℕ, false, refl}
use Rattle.sv8_isa.specs.declared.instr.Instr.{Instr}
use Rattle.sv8_isa.specs.declared.instr.Instr.TheVariants as row
use Rattle.sv8_isa.specs.Accesses.{makes_access}
use Rattle.sv8_trap.specs.Processor.{Processor}
use Rattle.sv8_trap.specs.declared.request.AccessRequest.TheVariants.{Nothing}
use Rattle.sv8_iu.specs.Instruction.{asked}

pub asks_for_nothing : (windows : ℕ) (p : Processor) (i : Instr) → makes_access i ≡ false → asked windows p i ≡ Nothing
asks_for_nothing windows p (row.Unimp imm22) h = refl
asks_for_nothing windows p (row.Bicc cond annul disp22) h = refl
asks_for_nothing windows p (row.Sethi imm22 rd) h = refl
asks_for_nothing windows p (row.Call disp30) h = refl
asks_for_nothing windows p (row.Arith op cc rd rs1 operand) h = refl
asks_for_nothing windows p (row.Tagged op rd rs1 operand) h = refl
asks_for_nothing windows p (row.Mulscc rd rs1 operand) h = refl
asks_for_nothing windows p (row.Shift op rd rs1 count) h = refl
asks_for_nothing windows p (row.ReadState register rd) h = refl
asks_for_nothing windows p row.Stbar h = refl
asks_for_nothing windows p (row.WriteState register rs1 operand) h = refl
asks_for_nothing windows p (row.Jmpl rd rs1 operand) h = refl
asks_for_nothing windows p (row.Rett rs1 operand) h = refl
asks_for_nothing windows p (row.Ticc cond rs1 operand) h = refl
asks_for_nothing windows p (row.Flush rs1 operand) h = refl
asks_for_nothing windows p (row.Save rd rs1 operand) h = refl
asks_for_nothing windows p (row.Restore rd rs1 operand) h = refl
asks_for_nothing windows p (row.Fp word) h = refl
asks_for_nothing windows p (row.Cp word) h = refl
asks_for_nothing windows p row.AltImm h = refl
asks_for_nothing windows p row.Illegal h = refl
asks_for_nothing windows p (row.Memory op rd rs1 operand) h = absurd cc
asks_for_nothing windows p (row.Alternate op rd rs1 rs2 asi) h = absurd cc
