use Rattle.std.proofs.Common.{◌≡◌, sym, subst}
use Rattle.sv8_time.proofs.PokeEdits.{on_ok}
use Rattle.sv8_trace.specs.Recorder.{steps_on, IsRecorded}
use Rattle.sv8_trace.specs.Recording.{last_point, recorded, IsExtended}
use Rattle.sv8_workbench.specs.Kept.{Kept}
use Rattle.sv8_bench.specs.Workbench.{Workbench}
use Rattle.sv8_bench.proofs.Queried.{run_added}
use Rattle.sv8_bench.proofs.bench.Bench.add_interval.Goals as goal

pub invariant_of-self : goal.invariant_of-self
invariant_of-self g c =
    let k = g.row.K in
    let inv = c.self.invariant in
    let inside = c.self.inside in
    let kept : Kept = record { windows = g.row.NW; pages = g.row.PAGES; source = inside.source; timeline = inside.timeline } in
    let back = sym c.self.view_is in
    let state = subst (λ (w : Workbench). c.args.machine ≡ steps_on g.row.NW g.row.PAGES w.kept.timeline (recorded k w.recording) (last_point w.recording) k) back c.requires.state in
    let steps = subst (λ (w : Workbench). IsRecorded g.row.NW g.row.PAGES w.kept.timeline (recorded k w.recording) (last_point w.recording) k c.args.interval) back c.requires.steps in
    let longer = on_ok {Q = IsExtended g.row.NW g.row.PAGES k inside.timeline inside.trace c.add.new.self} c.add.result (λ it. it inside.timeline state steps) c.add.ensures.extended in
    (inv.0, inv.1, inv.2, inv.3, inv.4, inv.5, inv.6, inv.7, run_added k inv.4 kept c.add.result inside.trace c.add.new.self inside.work inv.8 longer c.add.ensures.refused)
