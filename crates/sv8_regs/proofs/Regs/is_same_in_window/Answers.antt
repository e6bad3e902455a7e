use Rattle.std.proofs.Common.{refl}
use Rattle.sv8_regs.specs.Ring.{flat}
use Rattle.sv8_regs.proofs.Rows.{length-flat}
use Rattle.sv8_regs.proofs.Sameness.{decided_by_window}
use Rattle.sv8_regs.proofs.Regs.is_same_in_window.Goals as goal

pub returns-then-has_same_fields : goal.returns-then-has_same_fields
returns-then-has_same_fields g c =
    let n = g.row.NW in
    let own = c.self.inside in
    let others = c.other.inside in
    let known = c.self.invariant in
    decided_by_window n _ _ _ _ c.self.view_is c.other.view_is c.if-has_same_fields.ensures own.current others.current (flat n own.rows) (flat n others.rows) refl refl refl refl known.1 known.0
    c.same_words.result c.same_words.ensures.same known.5 c.other.invariant.5 (length-flat n own.rows) (length-flat n others.rows) known.7 c.other.invariant.7
