use Rattle.std.proofs.Common.{refl}
use Rattle.sv8_model.specs.Words.{field, signed}
use Rattle.sv8_isa.specs.Operands.{operand_of, condition_of}
use Rattle.sv8_isa.specs.Table.{meaning}
use Rattle.sv8_model.specs.Action.{◌>>=◌}
use Rattle.sv8_model.specs.Outside.{word_of}
use Rattle.sv8_mmu.specs.Translation.{translate}
use Rattle.sv8_phys.specs.Devices.{tick}
use Rattle.sv8_trap.specs.Processor.{advanced, with_result}
use Rattle.sv8_trap.specs.Table.{row_of}
use Rattle.sv8_cpu.specs.Step.{action, awake, interruptible, continued, instruction, executed}
use Rattle.sv8_memory.specs.Access.{access, at_virtual, fetched_from}
use Rattle.sv8_iu.specs.Operands.{sum_of_sources}
use Rattle.sv8_iu.specs.Windows.{moved}
use Rattle.sv8_iu.specs.Arithmetic.{finished, operated}
use Rattle.sv8_step_laws.proofs.laws.worked_windows.Goals as goal

pub returns-clause-window : goal.returns-clause-window
unfolding action awake interruptible continued instruction executed access at_virtual translate fetched_from ◌>>=◌ meaning field signed operand_of condition_of tick row_of word_of advanced with_result sum_of_sources moved finished operated
returns-clause-window g = refl

pub returns-clause-sum : goal.returns-clause-sum
unfolding action awake interruptible continued instruction executed access at_virtual translate fetched_from ◌>>=◌ meaning field signed operand_of condition_of tick row_of word_of advanced with_result sum_of_sources moved finished operated
returns-clause-sum g = refl

pub returns-clause-passed : goal.returns-clause-passed
unfolding action awake interruptible continued instruction executed access at_virtual translate fetched_from ◌>>=◌ meaning field signed operand_of condition_of tick row_of word_of advanced with_result sum_of_sources moved finished operated
returns-clause-passed g = refl

pub returns-clause-back : goal.returns-clause-back
unfolding action awake interruptible continued instruction executed access at_virtual translate fetched_from ◌>>=◌ meaning field signed operand_of condition_of tick row_of word_of advanced with_result sum_of_sources moved finished operated
returns-clause-back g = refl

pub returns-clause-result : goal.returns-clause-result
unfolding action awake interruptible continued instruction executed access at_virtual translate fetched_from ◌>>=◌ meaning field signed operand_of condition_of tick row_of word_of advanced with_result sum_of_sources moved finished operated
returns-clause-result g = refl
