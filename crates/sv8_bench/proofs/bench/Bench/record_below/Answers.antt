use Rattle.std.proofs.Common.{arith}
use Rattle.sv8_workbench.specs.Kept.{Kept}
use Rattle.sv8_bench.proofs.Queried.{run_further, last_fed}
use Rattle.sv8_bench.proofs.bench.Bench.record_below.Goals as goal

pub record_up_to-requires : goal.record_up_to-requires
record_up_to-requires g c =
    let inv = c.self.invariant in
    let kept : Kept = record { windows = g.row.NW; pages = g.row.PAGES; source = c.self.inside.source; timeline = c.self.inside.timeline } in
    (omega arith, (inv.4, (inv.5, (c.requires.step, (inv.7, last_fed g.row.K inv.4 kept c.self.inside.trace c.self.inside.work inv.8)))))

pub invariant_of-self : goal.invariant_of-self
invariant_of-self g c =
    let inv = c.self.invariant in
    let kept : Kept = record { windows = g.row.NW; pages = g.row.PAGES; source = c.self.inside.source; timeline = c.self.inside.timeline } in
    let run = run_further g.row.K inv.4 kept c.self.inside.trace c.record_up_to.new.trace c.self.inside.work c.record_up_to.new.work inv.8 c.record_up_to.ensures.run in
    (inv.0, inv.1, inv.2, inv.3, inv.4, inv.5, inv.6, inv.7, run)
