use Rattle.std.proofs.Common.{refl}
use Rattle.sv8_model.specs.Action.{◌>>=◌}
use Rattle.sv8_model.specs.Outside.{word_of, with_word}
use Rattle.sv8_model.specs.Words.{field}
use Rattle.sv8_mmu.specs.Translation.{translate, settled, physical_address, fault_type, marked}
use Rattle.sv8_mmu.specs.Walk.{walk, below_pointer}
use Rattle.sv8_part_laws.proofs.translation.worked_translations.Goals as goal

pub returns-clause-off : goal.returns-clause-off
unfolding translate settled physical_address fault_type marked walk below_pointer field word_of with_word ◌>>=◌
returns-clause-off g = refl

pub returns-clause-load : goal.returns-clause-load
unfolding translate settled physical_address fault_type marked walk below_pointer field word_of with_word ◌>>=◌
returns-clause-load g = refl

pub returns-clause-store : goal.returns-clause-store
unfolding translate settled physical_address fault_type marked walk below_pointer field word_of with_word ◌>>=◌
returns-clause-store g = refl

pub returns-clause-sets_r : goal.returns-clause-sets_r
unfolding translate settled physical_address fault_type marked walk below_pointer field word_of with_word ◌>>=◌
returns-clause-sets_r g = refl

pub returns-clause-sets_m : goal.returns-clause-sets_m
unfolding translate settled physical_address fault_type marked walk below_pointer field word_of with_word ◌>>=◌
returns-clause-sets_m g = refl

pub returns-clause-stores_entry : goal.returns-clause-stores_entry
unfolding translate settled physical_address fault_type marked walk below_pointer field word_of with_word ◌>>=◌
returns-clause-stores_entry g = refl

pub returns-clause-has_r : goal.returns-clause-has_r
unfolding translate settled physical_address fault_type marked walk below_pointer field word_of with_word ◌>>=◌
returns-clause-has_r g = refl

pub returns-clause-has_m : goal.returns-clause-has_m
unfolding translate settled physical_address fault_type marked walk below_pointer field word_of with_word ◌>>=◌
returns-clause-has_m g = refl

pub returns-clause-gains_m : goal.returns-clause-gains_m
unfolding translate settled physical_address fault_type marked walk below_pointer field word_of with_word ◌>>=◌
returns-clause-gains_m g = refl

pub returns-clause-large : goal.returns-clause-large
unfolding translate settled physical_address fault_type marked walk below_pointer field word_of with_word ◌>>=◌
returns-clause-large g = refl

pub returns-clause-device : goal.returns-clause-device
unfolding translate settled physical_address fault_type marked walk below_pointer field word_of with_word ◌>>=◌
returns-clause-device g = refl

pub returns-clause-no_device : goal.returns-clause-no_device
unfolding translate settled physical_address fault_type marked walk below_pointer field word_of with_word ◌>>=◌
returns-clause-no_device g = refl

pub returns-clause-nothing : goal.returns-clause-nothing
unfolding translate settled physical_address fault_type marked walk below_pointer field word_of with_word ◌>>=◌
returns-clause-nothing g = refl

pub returns-clause-unmarked : goal.returns-clause-unmarked
unfolding translate settled physical_address fault_type marked walk below_pointer field word_of with_word ◌>>=◌
returns-clause-unmarked g = refl

pub returns-clause-invalid : goal.returns-clause-invalid
unfolding translate settled physical_address fault_type marked walk below_pointer field word_of with_word ◌>>=◌
returns-clause-invalid g = refl
