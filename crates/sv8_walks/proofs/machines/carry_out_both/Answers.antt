use Rattle.sv8_memory.specs.Feeding.{bytes_fed}
use Rattle.sv8_walks.proofs.Ordinary.{unaided_carried_out}
use Rattle.sv8_walks.proofs.machines.carry_out_both.Goals as goal

pub returns-then-done-clause-own : goal.returns-then-done-clause-own
returns-then-done-clause-own g c = let told = c.in_ok-done-in-Memory.ensures.own in let made = rw c.if-done.true at told in made (bytes_fed c.args.feed)

pub returns-then-done-clause-others : goal.returns-then-done-clause-others
returns-then-done-clause-others g c = let told = c.in_ok-done-in-Memory.ensures.others in let made = rw c.if-done.true at told in made (bytes_fed c.args.other_feed)

pub returns-in_ok-carry_out_unaided-in_default : goal.returns-in_ok-carry_out_unaided-in_default
returns-in_ok-carry_out_unaided-in_default g c =
    let next = c.in_ok-count_down_both-in_default.ensures in
    let unaided = c.in_ok-carry_out_unaided-in_default.ensures.made in
    record { own = unaided_carried_out _ _ _ _ _ _ _ unaided next.own; others = unaided_carried_out _ _ _ _ _ _ _ unaided next.others }
