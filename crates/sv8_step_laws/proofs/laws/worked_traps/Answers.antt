use Rattle.std.proofs.Common.{refl}
use Rattle.sv8_model.specs.Words.{field, signed}
use Rattle.sv8_isa.specs.Operands.{operand_of, condition_of, trap_number_of}
use Rattle.sv8_isa.specs.Table.{meaning}
use Rattle.sv8_model.specs.Action.{◌>>=◌}
use Rattle.sv8_model.specs.Levels.{asked}
use Rattle.sv8_model.specs.Outside.{word_of}
use Rattle.sv8_phys.specs.Devices.{tick}
use Rattle.sv8_trap.specs.Entry.{trap_registers, entered_from, with_trap, with_return_trap, returned}
use Rattle.sv8_trap.specs.Interrupt.{unmasked}
use Rattle.sv8_trap.specs.Table.{row_of}
use Rattle.sv8_trap.specs.Processor.{advanced, transferred, with_result}
use Rattle.sv8_mmu.specs.Translation.{translate}
use Rattle.sv8_memory.specs.Access.{access, at_virtual, fetched_from}
use Rattle.sv8_iu.specs.Arithmetic.{finished, operated, tagged_of}
use Rattle.sv8_iu.specs.Control.{holds, return_traps, number_traps}
use Rattle.sv8_iu.specs.Operands.{sum_of_sources}
use Rattle.sv8_iu.specs.StateRegisters.{written_word, state_written}
use Rattle.sv8_cpu.specs.Step.{action, awake, interruptible, requested, continued, instruction, executed}
use Rattle.sv8_step_laws.proofs.laws.worked_traps.Goals as goal

pub returns-clause-tag_handler : goal.returns-clause-tag_handler
unfolding action awake interruptible requested continued instruction executed access at_virtual translate fetched_from ◌>>=◌ word_of meaning field signed operand_of condition_of trap_number_of asked unmasked holds return_traps number_traps sum_of_sources written_word state_written advanced transferred with_result tick finished operated tagged_of trap_registers entered_from with_trap with_return_trap returned row_of
returns-clause-tag_handler g = refl

pub returns-clause-tag_state : goal.returns-clause-tag_state
unfolding action awake interruptible requested continued instruction executed access at_virtual translate fetched_from ◌>>=◌ word_of meaning field signed operand_of condition_of trap_number_of asked unmasked holds return_traps number_traps sum_of_sources written_word state_written advanced transferred with_result tick finished operated tagged_of trap_registers entered_from with_trap with_return_trap returned row_of
returns-clause-tag_state g = refl

pub returns-clause-tag_pc : goal.returns-clause-tag_pc
unfolding action awake interruptible requested continued instruction executed access at_virtual translate fetched_from ◌>>=◌ word_of meaning field signed operand_of condition_of trap_number_of asked unmasked holds return_traps number_traps sum_of_sources written_word state_written advanced transferred with_result tick finished operated tagged_of trap_registers entered_from with_trap with_return_trap returned row_of
returns-clause-tag_pc g = refl

pub returns-clause-tag_npc : goal.returns-clause-tag_npc
unfolding action awake interruptible requested continued instruction executed access at_virtual translate fetched_from ◌>>=◌ word_of meaning field signed operand_of condition_of trap_number_of asked unmasked holds return_traps number_traps sum_of_sources written_word state_written advanced transferred with_result tick finished operated tagged_of trap_registers entered_from with_trap with_return_trap returned row_of
returns-clause-tag_npc g = refl

pub returns-clause-returned : goal.returns-clause-returned
unfolding action awake interruptible requested continued instruction executed access at_virtual translate fetched_from ◌>>=◌ word_of meaning field signed operand_of condition_of trap_number_of asked unmasked holds return_traps number_traps sum_of_sources written_word state_written advanced transferred with_result tick finished operated tagged_of trap_registers entered_from with_trap with_return_trap returned row_of
returns-clause-returned g = refl

pub returns-clause-user_state : goal.returns-clause-user_state
unfolding action awake interruptible requested continued instruction executed access at_virtual translate fetched_from ◌>>=◌ word_of meaning field signed operand_of condition_of trap_number_of asked unmasked holds return_traps number_traps sum_of_sources written_word state_written advanced transferred with_result tick finished operated tagged_of trap_registers entered_from with_trap with_return_trap returned row_of
returns-clause-user_state g = refl

pub returns-clause-trap_handler : goal.returns-clause-trap_handler
unfolding action awake interruptible requested continued instruction executed access at_virtual translate fetched_from ◌>>=◌ word_of meaning field signed operand_of condition_of trap_number_of asked unmasked holds return_traps number_traps sum_of_sources written_word state_written advanced transferred with_result tick finished operated tagged_of trap_registers entered_from with_trap with_return_trap returned row_of
returns-clause-trap_handler g = refl

pub returns-clause-trap_state : goal.returns-clause-trap_state
unfolding action awake interruptible requested continued instruction executed access at_virtual translate fetched_from ◌>>=◌ word_of meaning field signed operand_of condition_of trap_number_of asked unmasked holds return_traps number_traps sum_of_sources written_word state_written advanced transferred with_result tick finished operated tagged_of trap_registers entered_from with_trap with_return_trap returned row_of
returns-clause-trap_state g = refl
