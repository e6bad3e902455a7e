use Rattle.std.proofs.Common.{◌∙◌}
use Rattle.sv8_trace.specs.Overlaid.{taken}
use Rattle.sv8_trace.proofs.Overlays.{sound_overlaid, taken_shared}
use Rattle.sv8_trace.proofs.points.Points.copy.Goals as goal

pub invariant_of-result : goal.invariant_of-result
invariant_of-result g c =
    let inv = c.self.invariant in
    let same = taken_shared c.self.inside.machines.items _ c.in_ok-machines.ensures.cases.0 in
    let pages = c.in_ok-pages.ensures ∙ c.deref.ensures.value in
    let levels = c.in_ok-levels.ensures ∙ c.deref-2.ensures.value in
    rw (same, pages, levels) inv

pub returns-clause-same : goal.returns-clause-same
returns-clause-same g c =
    let same = taken_shared c.self.inside.machines.items _ c.in_ok-machines.ensures.cases.0 in
    let pages = c.in_ok-pages.ensures ∙ c.deref.ensures.value in
    let levels = c.in_ok-levels.ensures ∙ c.deref-2.ensures.value in
    rw (same, pages, levels) c.self.view_is

pub returns-clause-sound : goal.returns-clause-sound
returns-clause-sound g c =
    let same = taken_shared c.self.inside.machines.items _ c.in_ok-machines.ensures.cases.0 in
    let pages = c.in_ok-pages.ensures ∙ c.deref.ensures.value in
    let levels = c.in_ok-levels.ensures ∙ c.deref-2.ensures.value in
    rw (same, pages, levels) (sound_overlaid g.row.PAGES c.self.inside.pages.items c.self.inside.levels.items (taken c.self.inside.machines.items) c.self.invariant.3)
