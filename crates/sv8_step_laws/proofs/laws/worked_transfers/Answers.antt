use Rattle.std.proofs.Common.{refl}
use Rattle.sv8_model.specs.Words.{field, signed}
use Rattle.sv8_isa.specs.Operands.{operand_of, condition_of}
use Rattle.sv8_isa.specs.Table.{meaning}
use Rattle.sv8_model.specs.Action.{◌>>=◌}
use Rattle.sv8_model.specs.Outside.{word_of}
use Rattle.sv8_mmu.specs.Translation.{translate}
use Rattle.sv8_phys.specs.Devices.{tick}
use Rattle.sv8_trap.specs.Processor.{advanced, with_result, transferred}
use Rattle.sv8_trap.specs.Table.{row_of}
use Rattle.sv8_cpu.specs.Step.{action, awake, interruptible, continued, instruction, executed}
use Rattle.sv8_memory.specs.Access.{access, at_virtual, fetched_from}
use Rattle.sv8_iu.specs.Operands.{sum_of_sources}
use Rattle.sv8_iu.specs.Control.{called, jumped}
use Rattle.sv8_step_laws.proofs.laws.worked_transfers.Goals as goal

pub returns-clause-target : goal.returns-clause-target
unfolding action awake interruptible continued instruction executed access at_virtual translate fetched_from ◌>>=◌ meaning field signed operand_of condition_of tick row_of word_of advanced with_result transferred sum_of_sources called jumped
returns-clause-target g = refl

pub returns-clause-link : goal.returns-clause-link
unfolding action awake interruptible continued instruction executed access at_virtual translate fetched_from ◌>>=◌ meaning field signed operand_of condition_of tick row_of word_of advanced with_result transferred sum_of_sources called jumped
returns-clause-link g = refl

pub returns-clause-jumped : goal.returns-clause-jumped
unfolding action awake interruptible continued instruction executed access at_virtual translate fetched_from ◌>>=◌ meaning field signed operand_of condition_of tick row_of word_of advanced with_result transferred sum_of_sources called jumped
returns-clause-jumped g = refl

pub returns-clause-jump_link : goal.returns-clause-jump_link
unfolding action awake interruptible continued instruction executed access at_virtual translate fetched_from ◌>>=◌ meaning field signed operand_of condition_of tick row_of word_of advanced with_result transferred sum_of_sources called jumped
returns-clause-jump_link g = refl
