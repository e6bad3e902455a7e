use Rattle.std.proofs.Common.{◌≡◌, ◌/◌, ◌∙◌, ap, subst, length, arith}
use Rattle.std.proofs.Math.Nat.{mul-div_cancel_left}
use Rattle.sv8_history.specs.Patches.{cut, patch_all}
use Rattle.sv8_cpu.specs.Recorded.{machine}
use Rattle.sv8_cpu.specs.Patches.{changes_of}
use Rattle.sv8_trace.specs.Recording.{trace_of}
use Rattle.sv8_history.specs.Trace.{Near}
use Rattle.sv8_trace.specs.Prepared.{prepared_trace}
use Rattle.sv8_history.proofs.Common.{near_along, near_all, near_agrees, agrees_along}
use Rattle.sv8_trace.proofs.Editing.{uncut, whole_steps}
use Rattle.sv8_trace.proofs.trace.Trace.patch.Goals as goal

pub prepare-requires : goal.prepare-requires
prepare-requires g c =
    let is = c.recorded-recorded.ensures.steps in
    (omega arith, (c.requires.patches, (omega (arith, is), whole_steps g.row.K _ _ is)))

pub returns-clause-ok : goal.returns-clause-ok
returns-clause-ok g c =
    let k = g.row.K in
    let pos = c.self.invariant.3 in
    let m = machine g.row.NW g.row.PAGES in
    let r = c.args.self.now in
    let v = trace_of g.row.NW g.row.PAGES k r in
    let cs = changes_of g.row.NW g.row.PAGES c.args.patches.now in
    let p = prepared_trace g.row.NW g.row.PAGES k r c.in_ok-prepared.prepared in
    let count : c.recorded-recorded.result / k ≡ length r.intervals = ap (λ x. x / k) c.recorded-recorded.ensures.steps ∙ mul-div_cancel_left _ pos in
    let near : Near m k p (patch_all m k v cs) =
    near_along m k p (patch_all m k (cut m k v (length r.intervals)) cs) (patch_all m k v cs)
    (subst (λ x. Near m k p (patch_all m k (cut m k v x) cs)) count c.in_ok-prepared.ensures.prepared)
    (near_all m k pos cs (cut m k v (length r.intervals)) v (uncut g.row.NW g.row.PAGES k pos r)) in
    agrees_along m k (patch_all m k v cs) p (trace_of g.row.NW g.row.PAGES k c.commit.new.self) (near_agrees m k p (patch_all m k v cs) near) c.commit.ensures.agrees
