-- Where the register numbers of an instruction name registers.
use Rattle.std.specs.Prelude.{ℕ, ◌<◌}
use Rattle.sv8_isa.specs.declared.instr.Operand.{Operand}
use Rattle.sv8_isa.specs.declared.instr.Operand.TheVariants.{Register, Immediate}
use Rattle.sv8_isa.specs.declared.instr.Instr.{Instr}
use Rattle.sv8_isa.specs.declared.instr.Instr.TheVariants.{Unimp, Bicc, Sethi, Call, Arith, Tagged, Mulscc, Shift, ReadState, Stbar, WriteState, Jmpl, Rett, Ticc, Flush, Save, Restore, Memory, Alternate, Fp, Cp, AltImm, Illegal}

-- there are 32 registers
abbrev pub IsRegister : ℕ → Type 0
IsRegister r = r < 32

-- the register of an operand, where it is one
abbrev pub OperandHasRegister : Operand → Type 0
OperandHasRegister (Register r) = IsRegister r
OperandHasRegister (Immediate n) = Unit {0}

-- each register number in the instruction: rd, rs1, rs2 and the register of an operand
abbrev pub HasRegisters : Instr → Type 0
HasRegisters (Unimp imm22) = Unit {0}
HasRegisters (Bicc cond annul disp22) = Unit {0}
HasRegisters (Sethi imm22 rd) = IsRegister rd
HasRegisters (Call disp30) = Unit {0}
HasRegisters (Arith o cc rd rs1 source) = IsRegister rd × IsRegister rs1 × OperandHasRegister source
HasRegisters (Tagged o rd rs1 source) = IsRegister rd × IsRegister rs1 × OperandHasRegister source
HasRegisters (Mulscc rd rs1 source) = IsRegister rd × IsRegister rs1 × OperandHasRegister source
HasRegisters (Shift o rd rs1 count) = IsRegister rd × IsRegister rs1 × OperandHasRegister count
HasRegisters (ReadState r rd) = IsRegister rd
HasRegisters Stbar = Unit {0}
HasRegisters (WriteState r rs1 source) = IsRegister rs1 × OperandHasRegister source
HasRegisters (Jmpl rd rs1 source) = IsRegister rd × IsRegister rs1 × OperandHasRegister source
HasRegisters (Rett rs1 source) = IsRegister rs1 × OperandHasRegister source
HasRegisters (Ticc cond rs1 source) = IsRegister rs1 × OperandHasRegister source
HasRegisters (Flush rs1 source) = IsRegister rs1 × OperandHasRegister source
HasRegisters (Save rd rs1 source) = IsRegister rd × IsRegister rs1 × OperandHasRegister source
HasRegisters (Restore rd rs1 source) = IsRegister rd × IsRegister rs1 × OperandHasRegister source
HasRegisters (Memory o rd rs1 source) = IsRegister rd × IsRegister rs1 × OperandHasRegister source
HasRegisters (Alternate o rd rs1 rs2 asi) = IsRegister rd × IsRegister rs1 × IsRegister rs2
HasRegisters (Fp w) = Unit {0}
HasRegisters (Cp w) = Unit {0}
HasRegisters AltImm = Unit {0}
HasRegisters Illegal = Unit {0}
