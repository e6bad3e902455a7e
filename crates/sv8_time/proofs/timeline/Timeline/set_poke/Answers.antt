use Rattle.std.proofs.Common.{◌≡◌, ◌/◌, ◌%◌, ◌^◌, sym, subst, arith, None}
use Rattle.sv8_time.specs.Schedule.{Schedule, set_poke_fault}
use Rattle.sv8_time.proofs.SoundEvents.{sound_poke}
use Rattle.sv8_time.proofs.timeline.Timeline.set_poke.Goals as goal

pub invariant_of-self-2 : goal.invariant_of-self-2
invariant_of-self-2 c =
    let s : Schedule = record { limit = c.self.inside.limit; pokes = c.self.inside.pokes; inputs = c.self.inside.inputs; requests = c.self.inside.requests } in
    let f : set_poke_fault c.args.step c.args.address s ≡ None = subst (λ t. set_poke_fault c.args.step c.args.address t ≡ None) (sym c.self.view_is) c.in_ok-check_set_poke.ensures.ok in
    let value = c.args.value in
    sound_poke c.self.inside.marks c.mark.new.self s c.args.step c.args.address (value / 2 ^ 24 % 2 ^ 8) (value / 2 ^ 16 % 2 ^ 8) (value / 2 ^ 8 % 2 ^ 8) (value % 2 ^ 8) c.put_word.new.self (omega arith) (omega arith) (omega arith) (omega arith)
    (λ n e. c.mark.ensures.kept n (c.in_ok-reach.ensures.kept n e)) c.mark.ensures.marked c.self.invariant f c.in_ok-put_word.ensures.value c.in_ok-put_word.ensures.count
