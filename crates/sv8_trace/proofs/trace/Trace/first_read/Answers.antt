use Rattle.std.proofs.Common.{refl}
use Rattle.sv8_model.specs.Cells.{ram_byte}
use Rattle.sv8_history.specs.Changes.{Clear}
use Rattle.sv8_cpu.specs.Recorded.{machine}
use Rattle.sv8_trace.specs.Recording.{trace_of}
use Rattle.sv8_trace.proofs.Searching.{first_touched, first_untouched}
use Rattle.sv8_trace.proofs.trace.Trace.first_read.Goals as goal

pub returns-in-Some : goal.returns-in-Some
returns-in-Some g c =
    first_touched (machine g.row.NW g.row.PAGES) g.row.K (trace_of g.row.NW g.row.PAGES g.row.K c.args.self.now) (record { cell = ram_byte c.args.address; from = c.args.from; to = c.args.to; cause = Clear }) c.in-Some.step refl c.in-Some.ensures c.first_from-in-Some.result c.first_from-in-Some.ensures

pub returns-in-None : goal.returns-in-None
returns-in-None g c =
    first_untouched (machine g.row.NW g.row.PAGES) g.row.K (trace_of g.row.NW g.row.PAGES g.row.K c.args.self.now) (record { cell = ram_byte c.args.address; from = c.args.from; to = c.args.to; cause = Clear }) c.in-None.ensures
