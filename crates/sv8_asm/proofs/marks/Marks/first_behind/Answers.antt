use Rattle.std.proofs.Common.{rules, ◌≡◌, ◌∙◌, true, sym}
use Rattle.sv8_asm.proofs.InOrder.{first_in}
use Rattle.sv8_asm.proofs.marks.Marks.first_behind.Goals as goal

pub returns : goal.returns
returns c =
    let in_order : c.self.inside.is_in_order ≡ true = (search rules) in
    rw (← c.self.view_is) (c.location_at.ensures ∙ rw c.deref-3.ensures.value (sym (first_in c.args.line c.self.inside.labels.items c.self.inside.last c.count_up_to-count.result (c.self.invariant in_order)
    (rw (← c.deref-2.ensures.value) c.count_up_to-count.ensures.most) (rw (← c.deref-2.ensures.value) c.count_up_to-count.ensures.above) (rw (← c.deref-2.ensures.value) c.count_up_to-count.ensures.behind))))
