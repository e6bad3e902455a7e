use Rattle.std.proofs.Common.{refl}
use Rattle.sv8_model.specs.Action.{◌>>=◌}
use Rattle.sv8_model.specs.Outside.{word_of}
use Rattle.sv8_model.specs.Words.{field}
use Rattle.sv8_mmu.specs.Probe.{probe, sought}
use Rattle.sv8_mmu.specs.Walk.{walk, below_pointer}
use Rattle.sv8_part_laws.proofs.translation.worked_probes.Goals as goal

pub returns-clause-page : goal.returns-clause-page
unfolding probe sought walk below_pointer field word_of ◌>>=◌
returns-clause-page g = refl

pub returns-clause-segment : goal.returns-clause-segment
unfolding probe sought walk below_pointer field word_of ◌>>=◌
returns-clause-segment g = refl

pub returns-clause-region : goal.returns-clause-region
unfolding probe sought walk below_pointer field word_of ◌>>=◌
returns-clause-region g = refl

pub returns-clause-context : goal.returns-clause-context
unfolding probe sought walk below_pointer field word_of ◌>>=◌
returns-clause-context g = refl

pub returns-clause-to_segment : goal.returns-clause-to_segment
unfolding probe sought walk below_pointer field word_of ◌>>=◌
returns-clause-to_segment g = refl

pub returns-clause-to_region : goal.returns-clause-to_region
unfolding probe sought walk below_pointer field word_of ◌>>=◌
returns-clause-to_region g = refl

pub returns-clause-to_context : goal.returns-clause-to_context
unfolding probe sought walk below_pointer field word_of ◌>>=◌
returns-clause-to_context g = refl

pub returns-clause-no_pointer : goal.returns-clause-no_pointer
unfolding probe sought walk below_pointer field word_of ◌>>=◌
returns-clause-no_pointer g = refl

pub returns-clause-invalid_page : goal.returns-clause-invalid_page
unfolding probe sought walk below_pointer field word_of ◌>>=◌
returns-clause-invalid_page g = refl

pub returns-clause-invalid_segment : goal.returns-clause-invalid_segment
unfolding probe sought walk below_pointer field word_of ◌>>=◌
returns-clause-invalid_segment g = refl

pub returns-clause-invalid_region : goal.returns-clause-invalid_region
unfolding probe sought walk below_pointer field word_of ◌>>=◌
returns-clause-invalid_region g = refl

pub returns-clause-invalid_context : goal.returns-clause-invalid_context
unfolding probe sought walk below_pointer field word_of ◌>>=◌
returns-clause-invalid_context g = refl

pub returns-clause-above_page : goal.returns-clause-above_page
unfolding probe sought walk below_pointer field word_of ◌>>=◌
returns-clause-above_page g = refl

pub returns-clause-above_segment : goal.returns-clause-above_segment
unfolding probe sought walk below_pointer field word_of ◌>>=◌
returns-clause-above_segment g = refl

pub returns-clause-entire_page : goal.returns-clause-entire_page
unfolding probe sought walk below_pointer field word_of ◌>>=◌
returns-clause-entire_page g = refl

pub returns-clause-entire_region : goal.returns-clause-entire_region
unfolding probe sought walk below_pointer field word_of ◌>>=◌
returns-clause-entire_region g = refl

pub returns-clause-entire_none : goal.returns-clause-entire_none
unfolding probe sought walk below_pointer field word_of ◌>>=◌
returns-clause-entire_none g = refl

pub returns-clause-other : goal.returns-clause-other
unfolding probe sought walk below_pointer field word_of ◌>>=◌
returns-clause-other g = refl

pub returns-clause-other_reads : goal.returns-clause-other_reads
unfolding probe sought walk below_pointer field word_of ◌>>=◌
returns-clause-other_reads g = refl

pub returns-clause-reads : goal.returns-clause-reads
unfolding probe sought walk below_pointer field word_of ◌>>=◌
returns-clause-reads g = refl

pub returns-clause-off : goal.returns-clause-off
unfolding probe sought walk below_pointer field word_of ◌>>=◌
returns-clause-off g = refl
