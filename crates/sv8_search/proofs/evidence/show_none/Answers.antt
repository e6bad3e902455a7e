use Rattle.sv8_search.proofs.Passed.{none_wanted}
use Rattle.sv8_search.proofs.evidence.show_none.Goals as goal

pub returns-in-len1-up-clause-none : goal.returns-in-len1-up-clause-none
returns-in-len1-up-clause-none g c = λ e n low below.
    none_wanted c.args.bench.now.kept c.args.conditions.now n c.in-len1-up.len_at_least (c.each_shows_none.ensures e n low below)
