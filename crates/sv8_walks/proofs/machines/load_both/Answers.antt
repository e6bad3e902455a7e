use Rattle.std.proofs.Common.{refl, ◌∙◌}
use Rattle.sv8_walks.proofs.Ordinary.{load_carried_out, left_the_same}
use Rattle.sv8_walks.proofs.machines.load_both.Goals as goal

pub returns-clause-own : goal.returns-clause-own
returns-clause-own g c = λ word rs1 operand is place bytes.
    let r = c.requires in
    let told = c.in_ok-value.ensures in
    let loaded = rw (c.in-Some.is, c.data_space-asi.ensures.value) at told in
    load_carried_out _ _ _ _ _ _ _ c.args.size _ _ _ _ _ is place r.no_trap c.finish_access.ensures _ r.load (λ timer. loaded timer bytes) c.in_ok-count_down_both.ensures.own

pub returns-clause-others : goal.returns-clause-others
returns-clause-others g c = λ word rs1 operand is place bytes.
    let r = c.requires in
    let told = c.in_ok-other_value.ensures in
    let loaded = rw (c.in-Some-2.is, c.data_space-asi.ensures.value) at told in
    let same = left_the_same g.row.NW c.args.rd c.in-Some.value c.in-Some-2.other_value c.args.op c.args.p.now r.low (c.if-not-leave_the_same.ensures refl) in
    load_carried_out _ _ _ _ _ _ _ c.args.size _ _ _ _ _ is place r.no_trap (c.finish_access.ensures ∙ same) _ r.load (λ timer. loaded timer bytes) c.in_ok-count_down_both.ensures.others
