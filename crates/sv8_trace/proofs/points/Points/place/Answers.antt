use Rattle.std.proofs.Common.{rules, vec_len, ap, ◌≡◌, List, Option, length, get_or, subst, sym, ◌∙◌}
use Rattle.sv8_trace.specs.Recording.{blank}
use Rattle.sv8_trace.specs.Columns.{overlaid, AreFull}
use Rattle.sv8_trace.specs.Overlaid.{taken, AreOverlaid}
use Rattle.sv8_trace.proofs.Overlays.{laid, laid_fits, taken_long, length-overlaid, sound_overlaid}
use Rattle.sv8_trace.proofs.points.Points.place.Goals.{After-self-1}
use Rattle.sv8_trace.proofs.points.Points.place.Goals as goal
use Rattle.sv8_trace.proofs.points.Points.place.Given.{Over}

count : (g : Over) (c : After-self-1 g) → length c.args.self.now ≡ length (taken c.self.inside.machines.items)
count g c = sym (ap length c.self.view_is) ∙ length-overlaid c.self.inside.pages.items c.self.inside.levels.items 0 (taken c.self.inside.machines.items)

full : {X : Type 0} (g : Over) (c : After-self-1 g) (cs : List (Option (List X))) → AreFull (length c.args.self.now) cs → AreFull (length (taken c.self.inside.machines.items)) cs
full g c cs w = subst (λ n. AreFull n cs) (count g c) w

fits : (g : Over) (c : After-self-1 g) → AreOverlaid g.row.PAGES c.put_all.new.places.items c.put_all-2.new.places.items (taken c.self.inside.machines.items)
fits g c =
    laid_fits g.row.PAGES c.self.inside.pages.items c.args.pages.items c.put_all.new.places.items c.self.inside.levels.items c.args.levels.items c.put_all-2.new.places.items (taken c.self.inside.machines.items) c.self.invariant.3
    c.requires.columns c.put_all.ensures.length c.put_all-2.ensures.length (full g c c.args.pages.items c.requires.full_pages) (full g c c.args.levels.items c.requires.full_levels) c.put_all.ensures.put c.put_all-2.ensures.put

pub invariant_of-self : goal.invariant_of-self
invariant_of-self g c =
    let inv = c.self.invariant in
    let long : vec_len c.self.inside.machines ≡ length c.self.inside.machines.items = search rules in
    let all = fits g c in
    let idle : c.len-self-inside.result ≡ length (taken c.self.inside.machines.items) = c.len-self-inside.ensures ∙ long ∙ sym (taken_long c.self.inside.machines.items) in (
      inv.0,
      inv.1,
      inv.2,
      all,
      rw idle all.some_pages,
      rw idle all.some_levels,
    )

pub returns-clause-length : goal.returns-clause-length
returns-clause-length g c =
    length-overlaid c.put_all.new.places.items c.put_all-2.new.places.items 0 (taken c.self.inside.machines.items) ∙ sym (count g c)

pub returns-clause-placed : goal.returns-clause-placed
returns-clause-placed g c = λ i h.
    laid g.row.PAGES c.self.inside.pages.items c.args.pages.items c.put_all.new.places.items c.self.inside.levels.items c.args.levels.items c.put_all-2.new.places.items (taken c.self.inside.machines.items) c.self.invariant.3
    c.requires.columns c.put_all.ensures.length c.put_all-2.ensures.length (full g c c.args.pages.items c.requires.full_pages) (full g c c.args.levels.items c.requires.full_levels) c.put_all.ensures.put c.put_all-2.ensures.put i (rw c.self.view_is h)
    ∙ ap (λ ps. overlaid c.args.pages.items c.args.levels.items i (get_or ps i blank)) c.self.view_is

pub returns-clause-sound : goal.returns-clause-sound
returns-clause-sound g c =
    sound_overlaid g.row.PAGES c.put_all.new.places.items c.put_all-2.new.places.items (taken c.self.inside.machines.items)
    (fits g c)
