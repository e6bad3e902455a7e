use Rattle.std.proofs.Common.{◌≡◌, ◌≤◌, ◌∙◌, None, sym, ap, subst, arith}
use Rattle.sv8_time.specs.Schedule.{Schedule}
use Rattle.sv8_time.specs.Edits.{timeline_fault, with_edit}
use Rattle.sv8_edits.specs.Changes.{edit_change}
use Rattle.sv8_edits.specs.EditLaws.{Makes}
use Rattle.sv8_edits.proofs.Common.{timeline_edits}
use Rattle.sv8_trace.specs.Recording.{recorded}
use Rattle.sv8_bench.specs.Alike.{StaysAlike}
use Rattle.sv8_bench.specs.Edits.{IsReadyFor}
use Rattle.sv8_workbench.specs.Kept.{with_timeline}
use Rattle.sv8_bench.specs.Workbench.{Workbench, IsEdited}
use Rattle.sv8_bench.proofs.Edited.{AfterEdit, can, after_change, limit_stays}
use Rattle.sv8_bench.proofs.bench.Bench.edit.Given.{Over}
use Rattle.sv8_bench.proofs.bench.Bench.edit.Goals.{After-commit}
use Rattle.sv8_bench.proofs.bench.Bench.edit.Goals as goal

-- the workbench before the edit, and after it
abbrev before : (g : Over) → After-commit g → Workbench
before g c =
    let s = c.self.inside in
    record { kept = record { windows = g.row.NW; pages = g.row.PAGES; source = s.source; timeline = s.timeline }; recording = s.trace; worked = s.work }

abbrev after : (g : Over) → After-commit g → Workbench
after g c =
    let s = c.self.inside in
    record { kept = record { windows = g.row.NW; pages = g.row.PAGES; source = s.source; timeline = c.edit.new.self }; recording = c.commit.new.trace; worked = s.work }

-- the workbench with the edit that was asked for
abbrev IsDone : (g : Over) → After-commit g → Workbench → Workbench → Type 0
IsDone g c w new =
    IsEdited g.row.K (with_timeline (with_edit c.args.edit.now w.kept.timeline) w.kept) w new (edit_change w.kept.windows w.kept.pages c.args.edit.now w.kept.timeline)

edit : (g : Over) (c : After-commit g) → AfterEdit g.row.K (before g c) (after g c) (IsDone g c (before g c) (after g c))
edit g c =
    let inv = c.self.invariant in
    let k = g.row.K in
    let s = c.self.inside in
    let e = c.args.edit.now in
    let is = c.in-Ok-edit.ensures.value in
    let told = c.in-Ok.ensures in
    let change = edit_change g.row.NW g.row.PAGES e s.timeline in
    let few : recorded k s.trace ≤ 1000000 = omega (arith, c.recorded-recorded.ensures.bound, c.recorded-recorded.ensures.steps) in
    let runs = can g.row.NW g.row.PAGES k inv.4 s.source s.timeline s.trace s.work inv.8 inv.3 c.limit-limit.ensures.timeline inv.7 in
    let law = timeline_edits g.row.NW g.row.PAGES s.source s.timeline runs e told.bytes told.accepted in
    after_change g.row.NW g.row.PAGES k inv.4 s.source s.timeline s.trace s.work inv.8 inv.3 c.limit-limit.ensures.timeline inv.7 few change s.source c.edit.new.self
    (subst (λ t. Makes g.row.NW g.row.PAGES change s.source s.timeline s.source t runs) (sym is) law)
    c.in_ok-prepared.prepared (subst (λ x. IsReadyFor g.row.NW g.row.PAGES k x s.trace c.in_ok-prepared.prepared) told.change c.in_ok-prepared.ensures.ready)
    c.commit.new.trace c.commit.ensures _ (ap (λ t. with_timeline t (before g c).kept) is)

pub invariant_of-self-2 : goal.invariant_of-self-2
invariant_of-self-2 g c =
    let inv = c.self.invariant in (
      inv.0,
      inv.1,
      inv.2,
      inv.3,
      inv.4,
      inv.5,
      inv.6,
      ap (λ (t : Schedule). t.limit) c.in-Ok-edit.ensures.value ∙ limit_stays c.args.edit.now c.self.inside.timeline ∙ inv.7,
      (edit g (goal.at.invariant_of-self-2 g c).After-commit).run,
    )

pub returns : goal.returns
returns g c =
    let d = (goal.at.returns g c).After-commit in
    record {
      accepted = subst (λ (w : Workbench). timeline_fault c.args.edit.now w.kept.timeline ≡ None) c.self.view_is c.in-Ok.ensures.accepted;
      edited = subst (λ (w : Workbench). IsDone g d w (after g d)) c.self.view_is (edit g d).done;
      refused = tt;
      unchanged = tt;
      alike = subst (λ (w : Workbench). StaysAlike g.row.K w (after g d)) c.self.view_is (edit g d).alike;
    }
