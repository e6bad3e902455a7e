use Rattle.std.proofs.Common.{rules}
use Rattle.sv8_source.specs.Listing.{shown_all}
use Rattle.sv8_source.proofs.Changed.{skipped}
use Rattle.sv8_source.proofs.changes.next_word.Goals as goal

pub returns-clause-same : goal.returns-clause-same
returns-clause-same c = skipped (shown_all c.args.old.now) (shown_all c.args.new.now) c.args.word c.min-2.result c.args.count c.next_byte-next_old.result c.next_byte-next_new.result
    (search rules) (search rules) (search rules) (search rules) c.next_byte-next_old.ensures.none c.next_byte-next_new.ensures.none
