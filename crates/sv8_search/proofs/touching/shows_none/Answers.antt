use Rattle.std.proofs.Common.{◌≤◌, MatchBool, subst, arith}
use Rattle.sv8_trace.specs.Recording.{recorded}
use Rattle.sv8_evidence.specs.Showing.{NoneShows}
use Rattle.sv8_search.proofs.Untouched.{answer_shown}
use Rattle.sv8_search.proofs.touching.shows_none.Goals as goal

pub returns : goal.returns
returns g c =
    let a = c.args in
    let w = a.bench.now in
    let k = g.row.K in
    let within : a.to ≤ recorded k w.recording = omega (arith, c.if-recorded-to.false, c.recorded.ensures.steps) in
    let none = subst (λ r. MatchBool c.shows_none.result (NoneShows a.sign k r a.from a.to) (NoneShows a.sign k r a.from a.to → ⊥)) c.trace-trace.ensures c.shows_none.ensures in
    answer_shown k w c.sizes.ensures.some_steps c.recorded.ensures.run a.from a.to within a.sign c.shows_none.result none
