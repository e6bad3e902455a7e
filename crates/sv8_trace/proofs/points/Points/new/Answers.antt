use Rattle.std.proofs.Common.{ap, refl, ◌∙◌, ◌≡◌, ◌++◌, ◌∷◌, []}
use Rattle.sv8_trace.specs.Overlaid.{taken}
use Rattle.sv8_trace.proofs.Overlays.{first_is, first_fits, sound_overlaid, sound_of}
use Rattle.sv8_trace.proofs.points.Points.new.Goals.{In_ok-empty_places-2}
use Rattle.sv8_trace.proofs.points.Points.new.Goals as goal
use Rattle.sv8_trace.proofs.points.Points.new.Given.{Over}

one : (g : Over) (c : In_ok-empty_places-2 g) → taken c.push.new.self.items ≡ c.args.machine ∷ []
one g c = ap taken (c.in_ok-push.ensures.items ∙ ap (λ ms. ms ++ c.in_ok-machine.machine ∷ []) c.new-machines.ensures.items) ∙ ap (λ m. m ∷ []) c.in_ok-machine.ensures.ok

pub returns-clause-value : goal.returns-clause-value
returns-clause-value g c = first_is g.row.PAGES c.in_ok-empty_places.field-0.items c.in_ok-empty_places-2.field-0.items (taken c.push.new.self.items) c.args.machine c.in_ok-empty_places.ensures c.in_ok-empty_places-2.ensures (one g c)

pub returns-clause-sound : goal.returns-clause-sound
returns-clause-sound g c =
    sound_overlaid g.row.PAGES c.in_ok-empty_places.field-0.items c.in_ok-empty_places-2.field-0.items (taken c.push.new.self.items)
    (first_fits g.row.PAGES c.in_ok-empty_places.field-0.items c.in_ok-empty_places-2.field-0.items (taken c.push.new.self.items) c.args.machine c.in_ok-empty_places.ensures c.in_ok-empty_places-2.ensures (one g c)
    (sound_of g.row.PAGES c.args.machine c.args.machine refl c.ram_size-size.ensures.contents))
