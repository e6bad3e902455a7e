use Rattle.std.proofs.Common.{◌≡◌, ◌+◌, length}
use Rattle.sv8_trace.specs.Columns.{pages_from}
use Rattle.sv8_trace.proofs.points.overlay.put_pages.Given as goal

abbrev pub invariant-loop-rest : goal.invariant-loop-rest
invariant-loop-rest g l = (l.page + length l.rest ≡ g.row.PAGES) × (pages_from l.page l.rest l.index l.machine ≡ pages_from 0 l.fn.columns l.index l.fn.machine)

abbrev pub decreases-loop-rest : goal.decreases-loop-rest
decreases-loop-rest g l = length l.rest
