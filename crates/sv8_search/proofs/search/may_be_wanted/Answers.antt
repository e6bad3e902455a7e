use Rattle.sv8_search.proofs.Passed.{none_met}
use Rattle.sv8_search.proofs.OldBytes.{olds_stay}
use Rattle.sv8_search.proofs.search.may_be_wanted.Goals as goal

pub returns-in-len1-up-clause-wanted : goal.returns-in-len1-up-clause-wanted
returns-in-len1-up-clause-wanted g c = λ s made old e.
    none_met g.row.NW g.row.PAGES c.args.timeline.now c.args.n s c.args.conditions.now c.in-len1-up.len_at_least (c.may_meet_any.ensures s made old e)

pub returns-in-len1-up-clause-bytes : goal.returns-in-len1-up-clause-bytes
returns-in-len1-up-clause-bytes g c = λ s made old size e.
    olds_stay g.row.NW g.row.PAGES c.args.timeline.now c.args.n s c.args.after.now c.args.conditions.now made.state c.requires.inside size c.ram_size-size.ensures.contents.size
    (c.may_meet_any.ensures s made old e)
