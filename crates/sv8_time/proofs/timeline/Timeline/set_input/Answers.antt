use Rattle.std.proofs.Common.{◌≡◌, sym, subst, None}
use Rattle.sv8_time.specs.Schedule.{Schedule, set_input_fault}
use Rattle.sv8_time.proofs.SoundEvents.{sound_input}
use Rattle.sv8_time.proofs.timeline.Timeline.set_input.Goals as goal

pub invariant_of-self-2 : goal.invariant_of-self-2
invariant_of-self-2 c =
    let s : Schedule = record { limit = c.self.inside.limit; pokes = c.self.inside.pokes; inputs = c.self.inside.inputs; requests = c.self.inside.requests } in
    let f : set_input_fault c.args.step c.args.bytes.now s ≡ None = subst (λ t. set_input_fault c.args.step c.args.bytes.now t ≡ None) (sym c.self.view_is) c.in_ok-check_set_input.ensures.ok in
    sound_input c.self.inside.marks c.mark.new.self s c.args.step c.args.bytes.now c.put.new.self (λ n e. c.mark.ensures.kept n (c.in_ok-reach.ensures.kept n e)) c.mark.ensures.marked c.self.invariant f c.in_ok-put.ensures.value c.in_ok-put.ensures.count
