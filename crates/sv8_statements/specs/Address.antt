-- Addresses.
use Rattle.std.specs.Prelude.{ℕ}
use Rattle.sv8_statements.specs.declared.register.Register.{Register}
use Rattle.sv8_statements.specs.declared.value.Imm.{Imm}
use Rattle.sv8_statements.specs.declared.value.RegOrImm.{RegOrImm}

-- a register or a value, or both: reg_or_imm, reg + reg_or_imm, reg - number, imm + reg
pub data Address : Type 0 where
  One : RegOrImm → Address
  Sum : Register → RegOrImm → Address
  Less : Register → ℕ → Address
  After : Imm → Register → Address
