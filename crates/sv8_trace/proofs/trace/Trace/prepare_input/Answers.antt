use Rattle.std.proofs.Common.{◌≡◌, ◌*◌, ◌/◌, ◌∙◌, ap, subst, length, IfOk, arith}
use Rattle.std.proofs.Math.Nat.{mul-div_cancel_left}
use Rattle.sv8_history.specs.Input.{takes_edit}
use Rattle.sv8_history.specs.Patches.{count_after, cut}
use Rattle.sv8_cpu.specs.Recorded.{machine}
use Rattle.sv8_trace.specs.Recording.{trace_of}
use Rattle.sv8_history.specs.Trace.{Near}
use Rattle.sv8_trace.specs.Prepared.{prepared_trace}
use Rattle.sv8_trace.proofs.Editing.{below_end, left_below, whole_steps}
use Rattle.sv8_trace.proofs.trace.Trace.prepare_input.Goals as goal

pub steps_left-requires : goal.steps_left-requires
steps_left-requires g c =
    let m = machine g.row.NW g.row.PAGES in
    let v = trace_of g.row.NW g.row.PAGES g.row.K c.args.self.now in
    (omega arith, below_end (g.row.K * length c.args.self.now.intervals) (takes_edit m v.notes c.args.step) c.first_input-first.result c.first_input-first.ensures)

pub prepare-requires : goal.prepare-requires
prepare-requires g c =
    let m = machine g.row.NW g.row.PAGES in
    let v = trace_of g.row.NW g.row.PAGES g.row.K c.args.self.now in
    let n = length c.args.self.now.intervals in
    let left = left_below g.row.K n c.first_input-first.result (below_end (g.row.K * n) (takes_edit m v.notes c.args.step) c.first_input-first.result c.first_input-first.ensures) in
    let is = c.steps_left.ensures in
    (omega arith, (λ k d h. absurd (omega (arith, h)), (omega (arith, is, left), whole_steps g.row.K _ _ is)))

pub returns-clause-prepared : goal.returns-clause-prepared
returns-clause-prepared g c =
    let k = g.row.K in
    let m = machine g.row.NW g.row.PAGES in
    let v = trace_of g.row.NW g.row.PAGES k c.args.self.now in
    let n = length c.args.self.now.intervals in
    let e : c.steps_left.result / k ≡ count_after k n c.first_input-first.result = ap (λ x. x / k) c.steps_left.ensures ∙ mul-div_cancel_left _ c.self.invariant.3 in
    let f = e ∙ ap (count_after k n) c.first_input-first.ensures in
    subst (λ x. IfOk c.prepare.result (λ p. Near m k (prepared_trace g.row.NW g.row.PAGES k c.args.self.now p) (cut m k v x))) f c.prepare.ensures.prepared
