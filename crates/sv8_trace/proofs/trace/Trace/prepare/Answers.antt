use Rattle.std.proofs.Common.{◌/◌, sym, subst}
use Rattle.std.proofs.lemmas.List.{drop_all}
use Rattle.sv8_history.specs.Patches.{cut, patch_all}
use Rattle.sv8_cpu.specs.Recorded.{machine}
use Rattle.sv8_cpu.specs.Patches.{changes_of}
use Rattle.sv8_trace.specs.Recording.{trace_of}
use Rattle.sv8_history.specs.Trace.{Near}
use Rattle.sv8_trace.specs.Prepared.{prepared_trace}
use Rattle.sv8_history.proofs.Common.{near_all}
use Rattle.sv8_trace.proofs.Preparing.{patched_more, finished_fits, finished_trace}
use Rattle.sv8_trace.proofs.trace.Trace.prepare.Goals as goal

pub loop-patch-init : goal.loop-patch-init
loop-patch-init g c =
    let k = g.row.K in
    let m = machine g.row.NW g.row.PAGES in
    record {
      fits = c.in_ok-staged.ensures.fits;
      near = near_all m k c.self.invariant.3 (changes_of g.row.NW g.row.PAGES c.args.patches.now) _ _ c.in_ok-staged.ensures.near;
    }

pub loop-patch-preserved : goal.loop-patch-preserved
loop-patch-preserved g c =
    let k = g.row.K in
    let m = machine g.row.NW g.row.PAGES in
    record {
      fits = c.in_ok-apply.ensures.fits;
      near = patched_more g.row.NW g.row.PAGES k c.self.invariant.3 c.args.patches.now c.loop-patch.patch-index _ _ _ _ c.loop-patch-test.true c.in_ok-apply.ensures.near c.loop-patch.invariant.near;
    }

pub returns : goal.returns
returns g c =
    let k = g.row.K in
    let m = machine g.row.NW g.row.PAGES in
    let r = c.args.self.now in
    let staged = c.loop-patch.staged in
    let rest = c.in_ok-prepared.ensures.rest in
    let pages = c.in_ok-prepared.ensures.pages in
    let whole = patch_all m k (cut m k (trace_of g.row.NW g.row.PAGES k r) (c.args.cut / k)) (changes_of g.row.NW g.row.PAGES c.args.patches.now) in
    record {
      fits = finished_fits g.row.PAGES r staged c.in_ok-prepared.prepared rest pages c.loop-patch.invariant.fits;
      prepared = subst (λ v. Near m k v whole) (sym (finished_trace g.row.NW g.row.PAGES k r staged c.in_ok-prepared.prepared rest pages))
          (subst (λ ps. Near m k (patch_all m k (prepared_trace g.row.NW g.row.PAGES k r staged) (changes_of g.row.NW g.row.PAGES ps)) whole) (drop_all c.loop-patch.patch-index c.args.patches.now c.loop-patch-test.false) c.loop-patch.invariant.near);
    }
