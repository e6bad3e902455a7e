use Rattle.std.proofs.Common.{◌≡◌, sym, subst, arith, None}
use Rattle.sv8_time.specs.Schedule.{Schedule, set_poke_byte_fault}
use Rattle.sv8_time.proofs.SoundEvents.{sound_poke_byte}
use Rattle.sv8_time.proofs.timeline.Timeline.set_poke_byte.Goals as goal

pub invariant_of-self-2 : goal.invariant_of-self-2
invariant_of-self-2 c =
    let s : Schedule = record { limit = c.self.inside.limit; pokes = c.self.inside.pokes; inputs = c.self.inside.inputs; requests = c.self.inside.requests } in
    let f : set_poke_byte_fault c.args.step c.args.address s ≡ None = subst (λ t. set_poke_byte_fault c.args.step c.args.address t ≡ None) (sym c.self.view_is) c.in_ok-check_set_poke_byte.ensures.ok in
    sound_poke_byte c.self.inside.marks c.mark.new.self s c.args.step c.args.address c.args.value c.put_byte.new.self (omega (arith, c.ranges.value.fits))
    (λ n e. c.mark.ensures.kept n (c.in_ok-reach.ensures.kept n e)) c.mark.ensures.marked c.self.invariant f c.in_ok-put_byte.ensures.value c.in_ok-put_byte.ensures.count
