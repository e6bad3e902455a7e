use Rattle.std.proofs.Common.{refl}
use Rattle.sv8_regs.specs.Ring.{flat}
use Rattle.sv8_regs.proofs.Rows.{length-flat}
use Rattle.sv8_regs.proofs.Sameness.{decided_by_rest, unlike_current}
use Rattle.sv8_regs.proofs.Regs.has_same_windows.Goals as goal

pub returns-then-same_words : goal.returns-then-same_words
returns-then-same_words g c fields =
    let n = g.row.NW in
    let own = c.self.inside in
    let others = c.other.inside in
    let known = c.self.invariant in
    decided_by_rest n _ _ _ _ c.self.view_is c.other.view_is fields own.current others.current (flat n own.rows) (flat n others.rows) refl refl refl refl known.1 known.0
    c.same_rows.result c.same_rows.ensures c.if-same_words.ensures.same (length-flat n own.rows) (length-flat n others.rows) known.7 c.other.invariant.7

pub returns-else-same_words : goal.returns-else-same_words
returns-else-same_words g c fields =
    let n = g.row.NW in
    let own = c.self.inside in
    let others = c.other.inside in
    let known = c.self.invariant in
    unlike_current n _ _ _ _ c.self.view_is c.other.view_is fields own.current others.current (flat n own.rows) (flat n others.rows) refl refl refl refl known.1 known.0
    c.same_words.result c.if-same_words.false c.same_words.ensures.same known.5 c.other.invariant.5
