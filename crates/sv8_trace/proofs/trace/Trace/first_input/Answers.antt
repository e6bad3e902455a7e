use Rattle.std.proofs.Common.{◌*◌, length, arith, ap}
use Rattle.sv8_cpu.specs.Recorded.{machine}
use Rattle.sv8_trace.specs.Recording.{Recording, trace_of}
use Rattle.sv8_trace.proofs.Searching.{first_taken}
use Rattle.sv8_trace.proofs.trace.Trace.first_input.Goals as goal

pub returns : goal.returns
returns g c =
    let same = ap (λ (r : Recording). g.row.K * length r.intervals) c.self.view_is in
    let few = c.self.invariant.6 in
    first_taken (machine g.row.NW g.row.PAGES) g.row.K (trace_of g.row.NW g.row.PAGES g.row.K c.args.self.now) c.args.from _ c.first_from.result (omega (arith, same, few)) c.first_from.ensures
