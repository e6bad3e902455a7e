use Rattle.std.specs.List.{All}
use Rattle.std.proofs.Common.{ℕ, ◌+◌, ◌<◌, ◌≤◌, ◌∙◌, get_or, sym, ap, subst, arith}
use Rattle.sv8_phys.specs.Memory.{ram_size}
use Rattle.sv8_phys.specs.Contents.{AreContents}
use Rattle.sv8_source.specs.Text.{Text, texts, replaced}
use Rattle.sv8_source.specs.Image.{image_bytes}
use Rattle.sv8_source.specs.declared.image.Change.{Change}
use Rattle.sv8_cpu.specs.State.{State}
use Rattle.sv8_reset.specs.Reset.{reset_state}
use Rattle.sv8_edits.specs.Changes.{image_changes, source_change, cells}
use Rattle.sv8_edits.specs.EditLaws.{Edits}
use Rattle.sv8_edits.proofs.Common.{image_edits}
use Rattle.sv8_trace.specs.Recording.{recorded}
use Rattle.sv8_bench.specs.Alike.{StaysAlike}
use Rattle.sv8_bench.specs.Edits.{IsReadyFor}
use Rattle.sv8_workbench.specs.Kept.{edited}
use Rattle.sv8_bench.specs.Workbench.{Workbench, IsEdited}
use Rattle.sv8_edits.proofs.Common.{changes_inside}
use Rattle.sv8_bench.proofs.Edited.{AfterEdit, can, after_change}
use Rattle.sv8_bench.proofs.bench.Bench.replace_lines.Given.{Over}
use Rattle.sv8_bench.proofs.bench.Bench.replace_lines.Goals.{After-commit-2}
use Rattle.sv8_bench.proofs.bench.Bench.replace_lines.Goals as goal

-- the bytes of the image of a state after reset
bytes_below : (windows pages : ℕ) (t : Text) → AreContents pages (reset_state windows pages t).memory → (a : ℕ) → get_or (image_bytes t (ram_size pages)) a 0 < 256
unfolding reset_state
bytes_below windows pages t contents a = contents.bytes a

pub image_patches-requires : goal.image_patches-requires
image_patches-requires g c =
    let inv = c.self.invariant in
    let s = c.self.inside in
    let e = c.changes.ensures ∙ c.in-Ok.ensures.changed in
    (omega arith, (inv.1, (inv.3, subst (All (λ (w : Change). w.address + 4 ≤ ram_size g.row.PAGES)) (sym e) (changes_inside g.row.PAGES s.source c.in-Ok.plan.to inv.6))))

-- the workbench before the edit, and after it
abbrev before : (g : Over) → After-commit-2 g → Workbench
before g c =
    let s = c.self.inside in
    record { kept = record { windows = g.row.NW; pages = g.row.PAGES; source = s.source; timeline = s.timeline }; recording = s.trace; worked = s.work }

abbrev after : (g : Over) → After-commit-2 g → Workbench
after g c =
    let s = c.self.inside in
    record { kept = record { windows = g.row.NW; pages = g.row.PAGES; source = c.commit.new.self; timeline = s.timeline }; recording = c.commit-2.new.trace; worked = s.work }

-- the workbench with the edit that was asked for
abbrev IsDone : (g : Over) → After-commit-2 g → Workbench → Workbench → Type 0
IsDone g c w new =
    IsEdited g.row.K (edited c.args.first c.args.last (texts c.args.lines.now) w.kept) w new
    (source_change w.kept.windows w.kept.pages w.kept.source (replaced c.args.first c.args.last (texts c.args.lines.now) w.kept.source) w.kept.timeline)

edit : (g : Over) (c : After-commit-2 g) → AfterEdit g.row.K (before g c) (after g c) (IsDone g c (before g c) (after g c))
edit g c =
    let inv = c.self.invariant in
    let k = g.row.K in
    let s = c.self.inside in
    let next = c.in-Ok.plan.to in
    let to = c.in-Ok.ensures.to in
    let lines = replaced c.args.first c.args.last (texts c.args.lines.now) s.source in
    let changes = image_changes g.row.NW g.row.PAGES s.source lines s.timeline in
    let few : recorded k s.trace ≤ 1000000 = omega (arith, c.recorded-recorded.ensures.bound, c.recorded-recorded.ensures.steps) in
    let reset = c.in_ok-machine.ensures ∙ ap (reset_state g.row.NW g.row.PAGES) c.source.ensures in
    let contents : AreContents g.row.PAGES (reset_state g.row.NW g.row.PAGES next).memory = subst (λ (m : State). AreContents g.row.PAGES m.memory) reset c.ram_size-size.ensures.contents in
    let runs = can g.row.NW g.row.PAGES k inv.4 s.source s.timeline s.trace s.work inv.8 inv.3 c.limit-limit.ensures.timeline inv.7 in
    let law = image_edits g.row.NW g.row.PAGES s.source next s.timeline runs (bytes_below g.row.NW g.row.PAGES next contents) in
    let words = c.changes.ensures ∙ c.in-Ok.ensures.changed in
    let made = c.in_ok-patches.ensures.changes s.source next inv.6 words reset inv.8.sound ∙ ap (λ t. image_changes g.row.NW g.row.PAGES s.source t s.timeline) to in
    after_change g.row.NW g.row.PAGES k inv.4 s.source s.timeline s.trace s.work inv.8 inv.3 c.limit-limit.ensures.timeline inv.7 few (cells changes) c.commit.new.self s.timeline
    (subst (λ t. Edits g.row.NW g.row.PAGES (image_changes g.row.NW g.row.PAGES s.source t s.timeline) s.source s.timeline c.commit.new.self s.timeline runs) to
    (subst (λ t. Edits g.row.NW g.row.PAGES (image_changes g.row.NW g.row.PAGES s.source next s.timeline) s.source s.timeline t s.timeline runs) (sym c.commit.ensures) law))
    c.in_ok-prepared.prepared (subst (λ cs. IsReadyFor g.row.NW g.row.PAGES k (cells cs) s.trace c.in_ok-prepared.prepared) made c.in_ok-prepared.ensures.ready)
    c.commit-2.new.trace c.commit-2.ensures _ (ap (λ t. record (before g c).kept { source = t }) (c.commit.ensures ∙ to))

pub invariant_of-self : goal.invariant_of-self
invariant_of-self g c =
    let inv = c.self.invariant in (
      inv.0,
      inv.1,
      inv.2,
      inv.3,
      inv.4,
      inv.5,
      ap (λ (t : Text). t.limit) (c.commit.ensures ∙ c.in-Ok.ensures.to) ∙ inv.6,
      inv.7,
      (edit g (goal.at.invariant_of-self g c).After-commit-2).run,
    )

pub returns-clause-edited : goal.returns-clause-edited
returns-clause-edited g c =
    let d = (goal.at.returns-clause-edited g c).After-commit-2 in
    subst (λ (w : Workbench). IsDone g d w (after g d)) c.self.view_is (edit g d).done

pub returns-clause-alike : goal.returns-clause-alike
returns-clause-alike g c =
    let d = (goal.at.returns-clause-alike g c).After-commit-2 in
    subst (λ (w : Workbench). StaysAlike g.row.K w (after g d)) c.self.view_is (edit g d).alike
