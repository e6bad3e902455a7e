use Rattle.std.proofs.Common.{MatchBool, subst}
use Rattle.sv8_evidence.specs.Showing.{NoneShows}
use Rattle.sv8_evidence.specs.declared.signs.Sign.TheVariants as sign
use Rattle.sv8_search.proofs.Untouched.{answer_unreached}
use Rattle.sv8_search.proofs.touching.is_unreached.Goals as goal

pub returns-then-is_untouched : goal.returns-then-is_untouched
returns-then-is_untouched g c =
    let a = c.args in
    let w = a.bench.now in
    let k = g.row.K in
    let spared = c.if-is_untouched.ensures in
    let none = subst (λ r. MatchBool c.shows_none.result (NoneShows sign.Translation k r a.from a.to) (NoneShows sign.Translation k r a.from a.to → ⊥)) c.trace-trace.ensures c.shows_none.ensures in
    answer_unreached k w c.sizes.ensures.some_steps c.recorded-recorded.ensures.run a.from a.to spared.recorded a.address c.shows_none.result spared none
