use Rattle.sv8_time.specs.Schedule.{Schedule}
use Rattle.sv8_time.proofs.SoundEvents.{sound_cut_request}
use Rattle.sv8_time.proofs.timeline.Timeline.clear_request.Goals as goal

pub invariant_of-self : goal.invariant_of-self
invariant_of-self c =
    let s : Schedule = record { limit = c.self.inside.limit; pokes = c.self.inside.pokes; inputs = c.self.inside.inputs; requests = c.self.inside.requests } in
    sound_cut_request c.self.inside.marks s c.args.step c.in_ok-checked.checked c.cut.new.self c.self.invariant c.cut.ensures.value c.cut.ensures.count
