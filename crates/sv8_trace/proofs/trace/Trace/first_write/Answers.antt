use Rattle.std.proofs.Common.{◌*◌, ◌≤◌, sym, ap, subst, length, arith, mul-le-mul_left}
use Rattle.sv8_notes.specs.Cells.{cell_of}
use Rattle.sv8_cpu.specs.Recorded.{machine}
use Rattle.sv8_history.specs.Patching.{IsFirstWrite}
use Rattle.sv8_trace.specs.Recording.{Recording, recorded, trace_of}
use Rattle.sv8_trace.proofs.Preparing.{first_write_is}
use Rattle.sv8_trace.proofs.trace.Trace.first_write.Goals as goal

pub returns : goal.returns
returns g c =
    let m = machine g.row.NW g.row.PAGES in
    let v = trace_of g.row.NW g.row.PAGES g.row.K c.args.self.now in
    let same = ap (λ (r : Recording). g.row.K * length r.intervals) c.self.view_is in
    let inv = c.self.invariant in
    let few : recorded g.row.K c.args.self.now ≤ 1000000 = omega (arith, same, inv.6) in
    let le = mul-le-mul_left g.row.K c.requires in
    subst (IsFirstWrite m v (cell_of c.args.cell) c.args.from (g.row.K * c.args.checkpoint)) (sym c.unwrap_or.ensures)
    (first_write_is m v (cell_of c.args.cell) c.args.from (g.row.K * c.args.checkpoint) (recorded g.row.K c.args.self.now) c.first_from.result le few c.first_from.ensures)
