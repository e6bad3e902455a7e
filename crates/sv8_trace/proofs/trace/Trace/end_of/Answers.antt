use Rattle.std.proofs.Common.{rules, ◌≡◌, ◌*◌, ◌≤◌, ◌∙◌, ap, ap₂, sym, subst, min, length}
use Rattle.sv8_notes.specs.Marks.{mark_of}
use Rattle.sv8_trace.specs.Recording.{Recording}
use Rattle.sv8_trace.proofs.Marking.{unmet_behind}
use Rattle.sv8_trace.proofs.trace.Trace.end_of.Goals as goal

pub returns-in-Some-clause-none : goal.returns-in-Some-clause-none
returns-in-Some-clause-none g c = λ n low high.
    let k = g.row.K in
    let inv = c.self.invariant in
    let xs = c.self.inside.intervals.items in
    let same = ap (λ (r : Recording). r.intervals) c.self.view_is in
    let size : c.len.result ≡ length xs = search rules in
    let count : c.min.result ≡ min (mark_of c.self.inside.marks c.in-Some.address) (length xs) = c.min.ensures ∙ ap₂ min c.mark-count.ensures size in
    unmet_behind g.row.NW g.row.PAGES k inv.3 c.self.inside.marks xs c.args.self.now same inv.8 c.args.sought c.in-Some.address (sym c.word.ensures ∙ c.in-Some.is) n (subst (λ x. k * x ≤ n) count low) high
