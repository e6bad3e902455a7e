use Rattle.std.proofs.Common.{◌+◌, length, subst}
use Rattle.sv8_evidence.specs.Showing.{NoneShows}
use Rattle.sv8_evidence.specs.declared.signs.Sign.TheVariants as sign
use Rattle.sv8_search.proofs.Untouched.{unreached_flag, shown_by}
use Rattle.sv8_search.proofs.touching.flag_reaching.Goals as goal

pub returns-then-shows_none-clause-spared : goal.returns-then-shows_none-clause-spared
returns-then-shows_none-clause-spared g c =
    let a = c.args in
    let w = a.bench.now in
    let k = g.row.K in
    let end = a.from + length a.flags.now in
    let there = shown_by c.shows_none.result (NoneShows sign.Translation k c.trace-trace.result.now a.from end) (NoneShows sign.Translation k c.trace-trace.result.now a.from end → ⊥) c.shows_none.ensures c.if-shows_none.true in
    let none = subst (λ r. NoneShows sign.Translation k r a.from end) c.trace-trace.ensures there in
    unreached_flag k w c.sizes.ensures.some_steps c.recorded-recorded.ensures.run a.address a.from a.flags.now c.flag_touching.new.flags c.requires.recorded c.flag_touching.ensures none
