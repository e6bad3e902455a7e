use Rattle.std.proofs.Common.{ap, ap₂, subst, ◌++◌, ◌∷◌, [], ◌∙◌}
use Rattle.sv8_trace.specs.Placing.{AreSound}
use Rattle.sv8_trace.specs.Overlaid.{taken}
use Rattle.sv8_trace.proofs.Overlays.{pushed, pushed_fits, sound_overlaid, taken_more, sound_of}
use Rattle.sv8_trace.proofs.points.Points.push.Goals as goal

pub returns-in_err-machine-clause-sound : goal.returns-in_err-machine-clause-sound
returns-in_err-machine-clause-sound g c = subst (AreSound g.row.PAGES) c.self.view_is (sound_overlaid g.row.PAGES c.self.inside.pages.items c.self.inside.levels.items (taken c.self.inside.machines.items) c.self.invariant.3)

pub returns-in_err-push-clause-sound : goal.returns-in_err-push-clause-sound
returns-in_err-push-clause-sound g c = rw (ap taken c.in_err-push.ensures.items) (sound_overlaid g.row.PAGES c.self.inside.pages.items c.self.inside.levels.items (taken c.self.inside.machines.items) c.self.invariant.3)

pub invariant_of-self-2 : goal.invariant_of-self-2
invariant_of-self-2 g c =
    let inv = c.self.invariant in
    let more = taken_more c.self.inside.machines.items c.push.new.self.items c.in_ok-machine.machine c.in_ok-push.ensures.items in (
      inv.0,
      inv.1,
      inv.2,
      pushed_fits g.row.PAGES c.self.inside.pages.items c.self.inside.levels.items (taken c.self.inside.machines.items) (taken c.push.new.self.items) c.in_ok-machine.machine.value inv.3 more
          (sound_of g.row.PAGES c.args.machine c.in_ok-machine.machine.value c.in_ok-machine.ensures.ok c.ram_size-size.ensures.contents),
      inv.4,
      inv.5,
    )

pub returns-clause-pushed : goal.returns-clause-pushed
returns-clause-pushed g c =
    let more = taken_more c.self.inside.machines.items c.push.new.self.items c.in_ok-machine.machine c.in_ok-push.ensures.items in
    pushed g.row.PAGES c.self.inside.pages.items c.self.inside.levels.items (taken c.self.inside.machines.items) (taken c.push.new.self.items) c.in_ok-machine.machine.value c.self.invariant.3 more
    ∙ ap₂ (λ ps m. ps ++ m ∷ []) c.self.view_is c.in_ok-machine.ensures.ok

pub returns-clause-sound : goal.returns-clause-sound
returns-clause-sound g c =
    let more = taken_more c.self.inside.machines.items c.push.new.self.items c.in_ok-machine.machine c.in_ok-push.ensures.items in
    sound_overlaid g.row.PAGES c.self.inside.pages.items c.self.inside.levels.items (taken c.push.new.self.items)
    (pushed_fits g.row.PAGES c.self.inside.pages.items c.self.inside.levels.items (taken c.self.inside.machines.items) (taken c.push.new.self.items) c.in_ok-machine.machine.value c.self.invariant.3 more
    (sound_of g.row.PAGES c.args.machine c.in_ok-machine.machine.value c.in_ok-machine.ensures.ok c.ram_size-size.ensures.contents))
