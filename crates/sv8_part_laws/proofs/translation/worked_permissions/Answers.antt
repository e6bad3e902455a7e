use Rattle.std.proofs.Common.{refl}
use Rattle.sv8_model.specs.Action.{◌>>=◌}
use Rattle.sv8_model.specs.Outside.{word_of, with_word}
use Rattle.sv8_model.specs.Words.{field}
use Rattle.sv8_mmu.specs.Translation.{translate, settled, physical_address, fault_type, marked}
use Rattle.sv8_mmu.specs.Walk.{walk, below_pointer}
use Rattle.sv8_part_laws.proofs.translation.worked_permissions.Goals as goal

pub returns-clause-read_only : goal.returns-clause-read_only
unfolding translate settled physical_address fault_type marked walk below_pointer field word_of with_word ◌>>=◌
returns-clause-read_only g = refl

pub returns-clause-read_only_fetch : goal.returns-clause-read_only_fetch
unfolding translate settled physical_address fault_type marked walk below_pointer field word_of with_word ◌>>=◌
returns-clause-read_only_fetch g = refl

pub returns-clause-no_fetch : goal.returns-clause-no_fetch
unfolding translate settled physical_address fault_type marked walk below_pointer field word_of with_word ◌>>=◌
returns-clause-no_fetch g = refl

pub returns-clause-written : goal.returns-clause-written
unfolding translate settled physical_address fault_type marked walk below_pointer field word_of with_word ◌>>=◌
returns-clause-written g = refl

pub returns-clause-no_store : goal.returns-clause-no_store
unfolding translate settled physical_address fault_type marked walk below_pointer field word_of with_word ◌>>=◌
returns-clause-no_store g = refl

pub returns-clause-fetch_only : goal.returns-clause-fetch_only
unfolding translate settled physical_address fault_type marked walk below_pointer field word_of with_word ◌>>=◌
returns-clause-fetch_only g = refl

pub returns-clause-fetched : goal.returns-clause-fetched
unfolding translate settled physical_address fault_type marked walk below_pointer field word_of with_word ◌>>=◌
returns-clause-fetched g = refl

pub returns-clause-user_reads : goal.returns-clause-user_reads
unfolding translate settled physical_address fault_type marked walk below_pointer field word_of with_word ◌>>=◌
returns-clause-user_reads g = refl

pub returns-clause-supervisor_writes : goal.returns-clause-supervisor_writes
unfolding translate settled physical_address fault_type marked walk below_pointer field word_of with_word ◌>>=◌
returns-clause-supervisor_writes g = refl

pub returns-clause-supervisor_reads : goal.returns-clause-supervisor_reads
unfolding translate settled physical_address fault_type marked walk below_pointer field word_of with_word ◌>>=◌
returns-clause-supervisor_reads g = refl

pub returns-clause-not_users : goal.returns-clause-not_users
unfolding translate settled physical_address fault_type marked walk below_pointer field word_of with_word ◌>>=◌
returns-clause-not_users g = refl

pub returns-clause-supervisor_all : goal.returns-clause-supervisor_all
unfolding translate settled physical_address fault_type marked walk below_pointer field word_of with_word ◌>>=◌
returns-clause-supervisor_all g = refl

pub returns-clause-not_users_fetch : goal.returns-clause-not_users_fetch
unfolding translate settled physical_address fault_type marked walk below_pointer field word_of with_word ◌>>=◌
returns-clause-not_users_fetch g = refl
