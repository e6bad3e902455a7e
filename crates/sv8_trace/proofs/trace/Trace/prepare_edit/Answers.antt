use Rattle.std.proofs.Common.{◌≡◌, ◌*◌, ◌/◌, ◌∙◌, sym, ap, subst, length, IfOk, arith}
use Rattle.std.proofs.Math.Nat.{mul-div_cancel_left}
use Rattle.sv8_history.specs.Reads.{reads_edit}
use Rattle.sv8_history.specs.Patches.{count_after, cut, patch_all}
use Rattle.sv8_history.proofs.Common.{of_each}
use Rattle.sv8_cpu.specs.Recorded.{machine}
use Rattle.sv8_cpu.specs.Patches.{changes_of}
use Rattle.sv8_trace.specs.Recording.{trace_of}
use Rattle.sv8_history.specs.Trace.{Near}
use Rattle.sv8_trace.specs.Prepared.{prepared_trace}
use Rattle.sv8_trace.proofs.Editing.{below_end, left_below, whole_steps}
use Rattle.sv8_trace.proofs.trace.Trace.prepare_edit.Goals as goal

pub steps_left-requires : goal.steps_left-requires
steps_left-requires g c =
    let m = machine g.row.NW g.row.PAGES in
    let v = trace_of g.row.NW g.row.PAGES g.row.K c.args.self.now in
    let cs = changes_of g.row.NW g.row.PAGES c.args.patches.now in
    (omega arith, below_end (g.row.K * length c.args.self.now.intervals) (reads_edit m v.notes cs) c.first_of_all-first.result (c.first_of_all-first.ensures ∙ sym (of_each m g.row.K v cs)))

pub prepare-requires : goal.prepare-requires
prepare-requires g c =
    let m = machine g.row.NW g.row.PAGES in
    let v = trace_of g.row.NW g.row.PAGES g.row.K c.args.self.now in
    let cs = changes_of g.row.NW g.row.PAGES c.args.patches.now in
    let n = length c.args.self.now.intervals in
    let below = below_end (g.row.K * n) (reads_edit m v.notes cs) c.first_of_all-first.result (c.first_of_all-first.ensures ∙ sym (of_each m g.row.K v cs)) in
    let left = left_below g.row.K n c.first_of_all-first.result below in
    let is = c.steps_left.ensures in
    (omega arith, (c.requires.patches, (omega (arith, is, left), whole_steps g.row.K _ _ is)))

pub returns-clause-prepared : goal.returns-clause-prepared
returns-clause-prepared g c =
    let k = g.row.K in
    let m = machine g.row.NW g.row.PAGES in
    let v = trace_of g.row.NW g.row.PAGES k c.args.self.now in
    let cs = changes_of g.row.NW g.row.PAGES c.args.patches.now in
    let n = length c.args.self.now.intervals in
    let e : c.steps_left.result / k ≡ count_after k n c.first_of_all-first.result = ap (λ x. x / k) c.steps_left.ensures ∙ mul-div_cancel_left _ c.self.invariant.3 in
    let f = e ∙ ap (count_after k n) (c.first_of_all-first.ensures ∙ sym (of_each m k v cs)) in
    subst (λ x. IfOk c.prepare.result (λ p. Near m k (prepared_trace g.row.NW g.row.PAGES k c.args.self.now p) (patch_all m k (cut m k v x) cs))) f c.prepare.ensures.prepared
