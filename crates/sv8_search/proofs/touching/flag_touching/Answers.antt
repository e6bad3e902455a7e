use Rattle.std.proofs.Common.{◌+◌, subst}
use Rattle.sv8_notes.specs.Flags.{IsFlagged, IsFlaggedUnless}
use Rattle.sv8_evidence.specs.Touching.{NoneTouches}
use Rattle.sv8_search.specs.Touching.{pokes_at}
use Rattle.sv8_search.proofs.Untouched.{of_bench, flagged_unless}
use Rattle.sv8_search.proofs.touching.flag_touching.Goals as goal

pub returns : goal.returns
returns g c =
    let a = c.args in
    let w = a.bench.now in
    let k = g.row.K in
    let touched =
    of_bench (λ n p r. IsFlaggedUnless (λ i. NoneTouches a.kind n p k r a.address a.count (a.from + i) (a.from + i + 1)) a.flags.now c.flag_touching.new.flags) w _ _ _
    c.sizes.ensures.windows c.sizes.ensures.pages c.trace-trace.ensures c.flag_touching.ensures in
    let poked = subst (λ t. IsFlagged (λ i. pokes_at t a.address a.count (a.from + i)) c.flag_touching.new.flags c.flag_poking.new.flags) c.timeline.ensures c.flag_poking.ensures in
    flagged_unless a.kind k w c.recorded-recorded.ensures.run a.address a.count a.from a.flags.now c.flag_touching.new.flags c.flag_poking.new.flags c.requires.recorded touched poked
