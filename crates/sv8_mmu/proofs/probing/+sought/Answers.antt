use Rattle.std.proofs.Common.{arith}
use Rattle.sv8_mmu.proofs.Levels.{next_sought, entry_read}
use Rattle.sv8_mmu.proofs.probing.+sought.Goals as goal

pub returns-in-Some : goal.returns-in-Some
returns-in-Some g t c = λ o.
    rw (next_sought _ c.args.depth c.args.entry c.table_of.result c.args.below.now (omega arith) c.in-len1-up.len_at_least c.table_of.ensures.value c.if-entry-ne1.false)
    (entry_read _ _ 0 _ c.in-Some.next _ _ _ _ _ c.in-Some.ensures.entry.0 (omega arith) c.in-Some.ensures.entry.1 c.in-Some.ensures.entry.2 (c.sought.ensures o))
