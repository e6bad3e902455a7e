use Rattle.std.proofs.Common.{refl}
use Rattle.sv8_walks.proofs.Ordinary.{store_carried_out}
use Rattle.sv8_walks.proofs.machines.store_both.Goals as goal

pub returns-clause-own : goal.returns-clause-own
returns-clause-own g c = λ word rs1 operand is place bytes.
    let r = c.requires in
    let told = c.in_ok-stored.ensures.own in
    let stored = rw (c.if-not-stored.false, c.data_space-asi.ensures.value, c.from-value.ensures, c.get.ensures, c.registers.ensures, c.from.ensures) at told in
    store_carried_out _ _ _ _ _ _ _ c.args.size _ _ _ _ 0 is place r.no_trap c.finish_access.ensures _ _ r.store refl stored

pub returns-clause-others : goal.returns-clause-others
returns-clause-others g c = λ word rs1 operand is place bytes.
    let r = c.requires in
    let told = c.in_ok-stored.ensures.others in
    let stored = rw (c.if-not-stored.false, c.data_space-asi.ensures.value, c.from-value.ensures, c.get.ensures, c.registers.ensures, c.from.ensures) at told in
    store_carried_out _ _ _ _ _ _ _ c.args.size _ _ _ _ 0 is place r.no_trap c.finish_access.ensures _ _ r.store refl stored
