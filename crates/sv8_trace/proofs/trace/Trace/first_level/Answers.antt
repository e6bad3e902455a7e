use Rattle.std.proofs.Common.{refl}
use Rattle.sv8_model.specs.Cells.{pending_level}
use Rattle.sv8_history.specs.Changes.{Clear}
use Rattle.sv8_cpu.specs.Recorded.{machine}
use Rattle.sv8_trace.specs.Recording.{trace_of}
use Rattle.sv8_trace.proofs.Searching.{first_level}
use Rattle.sv8_trace.proofs.trace.Trace.first_level.Goals as goal

pub returns : goal.returns
returns g c =
    first_level (machine g.row.NW g.row.PAGES) g.row.K (trace_of g.row.NW g.row.PAGES g.row.K c.args.self.now) (record { cell = pending_level c.args.level; from = c.args.from; to = c.args.to; cause = Clear }) refl c.first_from.result c.first_from.ensures
