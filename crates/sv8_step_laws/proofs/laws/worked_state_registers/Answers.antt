use Rattle.std.proofs.Common.{refl}
use Rattle.sv8_model.specs.Words.{field, signed}
use Rattle.sv8_isa.specs.Operands.{operand_of, condition_of}
use Rattle.sv8_isa.specs.Table.{meaning}
use Rattle.sv8_model.specs.Action.{◌>>=◌}
use Rattle.sv8_model.specs.Outside.{word_of}
use Rattle.sv8_mmu.specs.Translation.{translate}
use Rattle.sv8_phys.specs.Devices.{tick}
use Rattle.sv8_trap.specs.Processor.{advanced, with_result}
use Rattle.sv8_trap.specs.Table.{row_of}
use Rattle.sv8_cpu.specs.Step.{action, awake, interruptible, continued, instruction, executed}
use Rattle.sv8_memory.specs.Access.{access, at_virtual, fetched_from}
use Rattle.sv8_iu.specs.StateRegisters.{state_read, written_word, state_written}
use Rattle.sv8_step_laws.proofs.laws.worked_state_registers.Goals as goal

pub returns-clause-y : goal.returns-clause-y
unfolding action awake interruptible continued instruction executed access at_virtual translate fetched_from ◌>>=◌ meaning field signed operand_of condition_of tick row_of word_of advanced with_result state_read written_word state_written
returns-clause-y g = refl

pub returns-clause-mask : goal.returns-clause-mask
unfolding action awake interruptible continued instruction executed access at_virtual translate fetched_from ◌>>=◌ meaning field signed operand_of condition_of tick row_of word_of advanced with_result state_read written_word state_written
returns-clause-mask g = refl
