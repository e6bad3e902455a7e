use Rattle.std.proofs.Common.{refl}
use Rattle.sv8_model.specs.Words.{field, signed}
use Rattle.sv8_isa.specs.Operands.{operand_of, condition_of}
use Rattle.sv8_isa.specs.Table.{meaning}
use Rattle.sv8_model.specs.Action.{◌>>=◌}
use Rattle.sv8_model.specs.Outside.{word_of}
use Rattle.sv8_phys.specs.Devices.{tick}
use Rattle.sv8_trap.specs.Processor.{advanced, transferred, with_result, slot_skipped}
use Rattle.sv8_mmu.specs.Translation.{translate}
use Rattle.sv8_memory.specs.Access.{access, at_virtual, fetched_from}
use Rattle.sv8_iu.specs.Arithmetic.{finished, operated}
use Rattle.sv8_iu.specs.Control.{branched, holds}
use Rattle.sv8_cpu.specs.Step.{action, awake, interruptible, continued, instruction, executed}
use Rattle.sv8_step_laws.proofs.laws.worked_steps.Goals as goal

pub returns-clause-branch : goal.returns-clause-branch
unfolding action awake interruptible continued instruction executed access at_virtual translate fetched_from ◌>>=◌ word_of meaning field signed operand_of condition_of branched holds advanced transferred with_result slot_skipped tick finished operated
returns-clause-branch g = refl

pub returns-clause-target : goal.returns-clause-target
unfolding action awake interruptible continued instruction executed access at_virtual translate fetched_from ◌>>=◌ word_of meaning field signed operand_of condition_of branched holds advanced transferred with_result slot_skipped tick finished operated
returns-clause-target g = refl

pub returns-clause-sum : goal.returns-clause-sum
unfolding action awake interruptible continued instruction executed access at_virtual translate fetched_from ◌>>=◌ word_of meaning field signed operand_of condition_of branched holds advanced transferred with_result slot_skipped tick finished operated
returns-clause-sum g = refl

pub returns-clause-annulled : goal.returns-clause-annulled
unfolding action awake interruptible continued instruction executed access at_virtual translate fetched_from ◌>>=◌ word_of meaning field signed operand_of condition_of branched holds advanced transferred with_result slot_skipped tick finished operated
returns-clause-annulled g = refl

pub returns-clause-skipped : goal.returns-clause-skipped
unfolding action awake interruptible continued instruction executed access at_virtual translate fetched_from ◌>>=◌ word_of meaning field signed operand_of condition_of branched holds advanced transferred with_result slot_skipped tick finished operated
returns-clause-skipped g = refl
