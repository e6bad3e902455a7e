use Rattle.std.proofs.Common.{ap, take, ◌∙◌}
use Rattle.sv8_trace.specs.Overlaid.{taken}
use Rattle.sv8_trace.proofs.Overlays.{truncated, cut_fits, cut_idle, sound_overlaid, taken_less}
use Rattle.sv8_trace.proofs.points.Points.truncate.Goals as goal

pub invariant_of-self : goal.invariant_of-self
invariant_of-self g c =
    let inv = c.self.invariant in
    let ms = c.self.inside.machines.items in (
      inv.0,
      inv.1,
      inv.2,
      cut_fits g.row.PAGES c.args.count c.self.inside.pages.items c.cut_all.new.places.items c.self.inside.levels.items c.cut_all-2.new.places.items (taken ms) (taken c.truncate.new.self.items)
          inv.3 c.cut_all.ensures c.cut_all-2.ensures (taken_less ms c.truncate.new.self.items c.args.count c.truncate.ensures.items),
      cut_idle c.self.inside.idle c.args.count c.min-self-inside.result c.self.inside.pages.items c.cut_all.new.places.items inv.4 c.cut_all.ensures c.min-self-inside.ensures,
      cut_idle c.self.inside.idle c.args.count c.min-self-inside.result c.self.inside.levels.items c.cut_all-2.new.places.items inv.5 c.cut_all-2.ensures c.min-self-inside.ensures,
    )

pub returns-clause-first : goal.returns-clause-first
returns-clause-first g c =
    let ms = c.self.inside.machines.items in
    truncated c.args.count c.self.inside.pages.items c.cut_all.new.places.items c.self.inside.levels.items c.cut_all-2.new.places.items (taken ms) (taken c.truncate.new.self.items)
    c.cut_all.ensures c.cut_all-2.ensures (taken_less ms c.truncate.new.self.items c.args.count c.truncate.ensures.items)
    ∙ ap (take c.args.count) c.self.view_is

pub returns-clause-sound : goal.returns-clause-sound
returns-clause-sound g c =
    let ms = c.self.inside.machines.items in
    sound_overlaid g.row.PAGES c.cut_all.new.places.items c.cut_all-2.new.places.items (taken c.truncate.new.self.items)
    (cut_fits g.row.PAGES c.args.count c.self.inside.pages.items c.cut_all.new.places.items c.self.inside.levels.items c.cut_all-2.new.places.items (taken ms) (taken c.truncate.new.self.items)
    c.self.invariant.3 c.cut_all.ensures c.cut_all-2.ensures (taken_less ms c.truncate.new.self.items c.args.count c.truncate.ensures.items))
