use Rattle.sv8_trace.proofs.Marking.{first_below}
use Rattle.sv8_trace.proofs.trace.Trace.first_from.Goals as goal

pub returns : goal.returns
returns g c =
    let found = c.first_between.ensures in
    first_below _ c.args.from c.args.to c.end_of.result _ c.first_between.result c.end_of.ensures.end c.end_of.ensures.none (rw c.min.ensures at found)
