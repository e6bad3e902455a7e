use Rattle.std.proofs.Common.{◌+◌, subst}
use Rattle.sv8_trace.specs.Recording.{Recording}
use Rattle.sv8_evidence.specs.Showing.{NoneShows}
use Rattle.sv8_notes.specs.Flags.{IsFlaggedUnless}
use Rattle.sv8_search.proofs.Untouched.{unflagged}
use Rattle.sv8_search.proofs.touching.flag_shown.Goals as goal

pub returns-clause-flagged : goal.returns-clause-flagged
returns-clause-flagged g c =
    let a = c.args in
    subst (λ (r : Recording). IsFlaggedUnless (λ i. NoneShows a.sign g.row.K r (a.from + i) (a.from + i + 1)) a.flags.now c.flag_shown.new.flags) c.trace-trace.ensures c.flag_shown.ensures

pub returns-clause-spared : goal.returns-clause-spared
returns-clause-spared g c =
    let a = c.args in
    let k = g.row.K in
    let flagged = subst (λ (r : Recording). IsFlaggedUnless (λ i. NoneShows a.sign k r (a.from + i) (a.from + i + 1)) a.flags.now c.flag_shown.new.flags) c.trace-trace.ensures c.flag_shown.ensures in
    unflagged a.sign k a.bench.now c.sizes.ensures.some_steps c.recorded-recorded.ensures.run a.from a.flags.now c.flag_shown.new.flags c.requires.recorded flagged
