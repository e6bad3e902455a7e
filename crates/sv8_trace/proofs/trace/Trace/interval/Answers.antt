use Rattle.std.proofs.Common.{◌≡◌, ap}
use Rattle.sv8_trace.specs.Recording.{Recording}
use Rattle.sv8_trace.proofs.Searching.{interval_of}
use Rattle.sv8_trace.proofs.trace.Trace.interval.Goals as goal

pub returns : goal.returns
returns g c =
    let same = ap (λ (r : Recording). r.intervals) c.self.view_is in
    interval_of g.row.K c.args.step c.self.inside.intervals.items c.args.self.now c.index.result.now _ c.self.invariant.3 same c.requires c.index.ensures
