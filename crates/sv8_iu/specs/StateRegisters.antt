-- Reads and writes of Y, PSR, WIM and TBR (Appendices B.28 and B.29).
use Rattle.std.specs.Prelude.{ℕ, Bool, true, false, not, nat_lt, ◌&&◌, List, ◌++◌, bit_xor}
use Rattle.sv8_isa.specs.declared.instr.Operand.{Operand}
use Rattle.sv8_isa.specs.declared.instr.StateRegister.{StateRegister}
use Rattle.sv8_isa.specs.declared.instr.StateRegister.TheVariants.{Y, Psr, Wim, Tbr}
use Rattle.sv8_regs.specs.Control.{packed_psr, unpacked_psr, window_field, kept_mask, with_base}
use Rattle.sv8_regs.specs.Ring.{Registers, read}
use Rattle.sv8_trap.specs.declared.table.Trap.{Trap}
use Rattle.sv8_trap.specs.declared.table.Trap.TheVariants.{PrivilegedInstruction, IllegalInstruction}
use Rattle.sv8_trap.specs.Processor.{Processor, advanced, with_result, with_y}
use Rattle.sv8_iu.specs.Operands.{operand_value, when}

-- all but Y are the supervisor's
abbrev pub is_privileged : StateRegister → Bool
is_privileged Y = false
is_privileged register = true

abbrev pub privilege_traps : Processor → StateRegister → List Trap
privilege_traps p register = when (is_privileged register && not p.registers.psr.s) PrivilegedInstruction

-- the word of a register
abbrev pub state_word : Registers → StateRegister → ℕ
state_word r Y = r.y
state_word r Psr = packed_psr r.psr r.cwp
state_word r Wim = r.wim
state_word r Tbr = r.tbr

unfoldable pub state_read : ℕ → Processor → StateRegister → ℕ → Processor
state_read windows p register rd = with_result windows p rd (state_word p.registers register)

-- what is written is the exclusive or of both sources
unfoldable pub written_word : ℕ → Processor → ℕ → Operand → ℕ
written_word windows p rs1 operand = bit_xor (read windows p.registers rs1) (operand_value windows p operand)

-- a word for the PSR whose CWP is no window's number
abbrev pub names_no_window : ℕ → StateRegister → ℕ → Bool
names_no_window windows Psr word = not (nat_lt (window_field word) windows)
names_no_window windows register word = false

-- to write one is illegal
abbrev pub write_traps : ℕ → Processor → StateRegister → ℕ → Operand → List Trap
write_traps windows p register rs1 operand =
    privilege_traps p register ++ when (names_no_window windows register (written_word windows p rs1 operand)) IllegalInstruction

-- a register with a word written to it; of TBR the trap type stays
abbrev pub with_state : ℕ → Processor → StateRegister → ℕ → Processor
with_state windows p Y word = with_y p word
with_state windows p Psr word = record p { registers = record p.registers { psr = unpacked_psr word; cwp = window_field word } }
with_state windows p Wim word = record p { registers = record p.registers { wim = kept_mask windows word } }
with_state windows p Tbr word = record p { registers = record p.registers { tbr = with_base p.registers.tbr word } }

unfoldable pub state_written : ℕ → Processor → StateRegister → ℕ → Processor
state_written windows p register word = advanced (with_state windows p register word)
