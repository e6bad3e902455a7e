-- The instructions that the code holds, as a list.
use Rattle.std.specs.Prelude.{List, [], ◌∷◌, Option, Some, None}
use Rattle.sv8_isa.specs.declared.instr.Instr.{Instr}
use Rattle.sv8_asm.specs.declared.instruction.Coded.{Coded}
use Rattle.sv8_asm.specs.declared.instruction.Coded.TheVariants.{One, Two}

abbrev pub listed : Coded → List Instr
listed (One i) = i ∷ []
listed (Two i j) = i ∷ j ∷ []

-- none for what is no instruction
abbrev pub listed_any : Option Coded → List Instr
listed_any None = []
listed_any (Some c) = listed c
