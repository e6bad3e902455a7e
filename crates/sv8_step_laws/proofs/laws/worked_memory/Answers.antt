use Rattle.std.proofs.Common.{refl}
use Rattle.sv8_model.specs.Words.{field, signed}
use Rattle.sv8_isa.specs.Operands.{operand_of, condition_of}
use Rattle.sv8_isa.specs.Table.{meaning}
use Rattle.sv8_model.specs.Action.{◌>>=◌}
use Rattle.sv8_model.specs.Outside.{word_of, with_word, with_byte}
use Rattle.sv8_mmu.specs.Translation.{translate}
use Rattle.sv8_phys.specs.Devices.{tick}
use Rattle.sv8_trap.specs.Processor.{advanced, with_result}
use Rattle.sv8_trap.specs.Table.{row_of}
use Rattle.sv8_cpu.specs.Step.{action, awake, interruptible, continued, instruction, executed}
use Rattle.sv8_trap.specs.Requests.{space_of}
use Rattle.sv8_memory.specs.Access.{access, at_virtual, fetched_from, loaded_from, plainly_loaded, stored_at, exchanged_at}
use Rattle.sv8_iu.specs.Operands.{sum_of_sources}
use Rattle.sv8_iu.specs.Memory.{memory_traps, access_of, transferred_data, sign_extended}
use Rattle.sv8_step_laws.proofs.laws.worked_memory.Goals as goal

pub returns-clause-word : goal.returns-clause-word
unfolding action awake interruptible continued instruction executed access at_virtual translate fetched_from ◌>>=◌ meaning field signed operand_of condition_of tick row_of word_of with_word with_byte advanced with_result space_of loaded_from plainly_loaded stored_at exchanged_at sum_of_sources memory_traps access_of transferred_data sign_extended
returns-clause-word g = refl

pub returns-clause-signed_byte : goal.returns-clause-signed_byte
unfolding action awake interruptible continued instruction executed access at_virtual translate fetched_from ◌>>=◌ meaning field signed operand_of condition_of tick row_of word_of with_word with_byte advanced with_result space_of loaded_from plainly_loaded stored_at exchanged_at sum_of_sources memory_traps access_of transferred_data sign_extended
returns-clause-signed_byte g = refl

pub returns-clause-half : goal.returns-clause-half
unfolding action awake interruptible continued instruction executed access at_virtual translate fetched_from ◌>>=◌ meaning field signed operand_of condition_of tick row_of word_of with_word with_byte advanced with_result space_of loaded_from plainly_loaded stored_at exchanged_at sum_of_sources memory_traps access_of transferred_data sign_extended
returns-clause-half g = refl

pub returns-clause-swapped : goal.returns-clause-swapped
unfolding action awake interruptible continued instruction executed access at_virtual translate fetched_from ◌>>=◌ meaning field signed operand_of condition_of tick row_of word_of with_word with_byte advanced with_result space_of loaded_from plainly_loaded stored_at exchanged_at sum_of_sources memory_traps access_of transferred_data sign_extended
returns-clause-swapped g = refl

pub returns-clause-swap_stored : goal.returns-clause-swap_stored
unfolding action awake interruptible continued instruction executed access at_virtual translate fetched_from ◌>>=◌ meaning field signed operand_of condition_of tick row_of word_of with_word with_byte advanced with_result space_of loaded_from plainly_loaded stored_at exchanged_at sum_of_sources memory_traps access_of transferred_data sign_extended
returns-clause-swap_stored g = refl

pub returns-clause-tested : goal.returns-clause-tested
unfolding action awake interruptible continued instruction executed access at_virtual translate fetched_from ◌>>=◌ meaning field signed operand_of condition_of tick row_of word_of with_word with_byte advanced with_result space_of loaded_from plainly_loaded stored_at exchanged_at sum_of_sources memory_traps access_of transferred_data sign_extended
returns-clause-tested g = refl

pub returns-clause-set : goal.returns-clause-set
unfolding action awake interruptible continued instruction executed access at_virtual translate fetched_from ◌>>=◌ meaning field signed operand_of condition_of tick row_of word_of with_word with_byte advanced with_result space_of loaded_from plainly_loaded stored_at exchanged_at sum_of_sources memory_traps access_of transferred_data sign_extended
returns-clause-set g = refl
