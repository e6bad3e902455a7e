use Rattle.std.proofs.Common.{◌/◌}
use Rattle.sv8_history.specs.Patches as history
use Rattle.sv8_cpu.specs.Recorded.{machine}
use Rattle.sv8_trace.specs.Recording.{trace_of}
use Rattle.sv8_trace.specs.Prepared.{prepared_trace}
use Rattle.sv8_history.proofs.Common.{near_agrees, agrees_along}
use Rattle.sv8_trace.proofs.trace.Trace.cut.Goals as goal

pub returns-clause-ok : goal.returns-clause-ok
returns-clause-ok g c =
    let k = g.row.K in
    let m = machine g.row.NW g.row.PAGES in
    let v = history.cut m k (trace_of g.row.NW g.row.PAGES k c.args.self.now) (c.args.steps / k) in
    let p = prepared_trace g.row.NW g.row.PAGES k c.args.self.now c.in_ok-prepared.prepared in
    agrees_along m k v p (trace_of g.row.NW g.row.PAGES k c.commit.new.self) (near_agrees m k p v c.in_ok-prepared.ensures.prepared) c.commit.ensures.agrees
