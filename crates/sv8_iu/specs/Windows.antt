-- SAVE and RESTORE (Appendix B.20).
use Rattle.std.specs.Prelude.{ℕ, List}
use Rattle.sv8_isa.specs.declared.instr.Operand.{Operand}
use Rattle.sv8_model.specs.Words.{bit}
use Rattle.sv8_regs.specs.Control.{below, above}
use Rattle.sv8_trap.specs.declared.table.Trap.{Trap}
use Rattle.sv8_trap.specs.declared.table.Trap.TheVariants.{WindowOverflow, WindowUnderflow}
use Rattle.sv8_trap.specs.Processor.{Processor, with_result, in_window}
use Rattle.sv8_iu.specs.Operands.{sum_of_sources, when}

-- they trap where WIM marks the window that they go to
abbrev pub save_traps : ℕ → Processor → List Trap
save_traps windows p = when (bit p.registers.wim (below windows p.registers.cwp)) WindowOverflow

abbrev pub restore_traps : ℕ → Processor → List Trap
restore_traps windows p = when (bit p.registers.wim (above windows p.registers.cwp)) WindowUnderflow

-- in another window: the sum of sources in the old one goes to rd of the new one
unfoldable pub moved : ℕ → Processor → ℕ → ℕ → ℕ → Operand → Processor
moved windows p window rd rs1 operand = with_result windows (in_window p window) rd (sum_of_sources windows p rs1 operand)

abbrev pub saved : ℕ → Processor → ℕ → ℕ → Operand → Processor
saved windows p rd rs1 operand = moved windows p (below windows p.registers.cwp) rd rs1 operand

abbrev pub restored : ℕ → Processor → ℕ → ℕ → Operand → Processor
restored windows p rd rs1 operand = moved windows p (above windows p.registers.cwp) rd rs1 operand
