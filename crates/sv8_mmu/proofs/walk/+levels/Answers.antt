use Rattle.sv8_mmu.proofs.Levels.{next_level}
use Rattle.sv8_mmu.proofs.walk.+levels.Goals as goal

pub below_pointer-returns-in-len1-up-clause-walk : goal.below_pointer-returns-in-len1-up-clause-walk
below_pointer-returns-in-len1-up-clause-walk g t c = λ o. rw (next_level _ c.args.level c.args.entry c.table_of.result c.args.below.now c.in-len1-up.len_at_least c.table_of.ensures.value) (c.look_up.ensures.walk o)
