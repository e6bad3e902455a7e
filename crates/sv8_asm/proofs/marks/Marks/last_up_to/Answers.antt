use Rattle.std.proofs.Common.{rules, ◌≡◌, ◌∙◌, true, sym}
use Rattle.sv8_asm.proofs.InOrder.{none_in, last_in}
use Rattle.sv8_asm.proofs.marks.Marks.last_up_to.Goals as goal

pub returns : goal.returns
returns c =
    let in_order : c.self.inside.is_in_order ≡ true = (search rules) in
    rw (← c.self.view_is) (c.location_at.ensures ∙ rw c.deref-3.ensures.value (sym (last_in c.args.line c.self.inside.labels.items c.self.inside.last c.count_up_to-count.result (c.self.invariant in_order) c.if-count-eq0.false
    (rw (← c.deref-2.ensures.value) c.count_up_to-count.ensures.most) (rw (← c.deref-2.ensures.value) c.count_up_to-count.ensures.above) (rw (← c.deref-2.ensures.value) c.count_up_to-count.ensures.behind))))

pub returns-then-count-eq0 : goal.returns-then-count-eq0
returns-then-count-eq0 c =
    let in_order : c.self.inside.is_in_order ≡ true = (search rules) in
    rw (← c.self.view_is) (sym (none_in c.args.line c.self.inside.labels.items c.self.inside.last c.count_up_to-count.result (c.self.invariant in_order) (search rules) (rw (← c.deref-2.ensures.value) c.count_up_to-count.ensures.behind)))
