-- Which instructions load or store.
use Rattle.std.specs.Prelude.{Bool, true, false}
use Rattle.sv8_isa.specs.declared.instr.Instr.{Instr}
use Rattle.sv8_isa.specs.declared.instr.Instr.TheVariants.{Memory, Alternate}

abbrev pub makes_access : Instr → Bool
makes_access (Memory op rd rs1 operand) = true
makes_access (Alternate op rd rs1 rs2 asi) = true
makes_access i = false
