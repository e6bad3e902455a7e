use Rattle.std.proofs.Common.{suc, None, option_map, refl, sym, ap, ◌∙◌}
use Rattle.sv8_notes.specs.Cells.{cell_of, content_of}
use Rattle.sv8_cpu.specs.Recorded.{machine}
use Rattle.sv8_trace.specs.declared.prepared.Staged.{Staged}
use Rattle.sv8_trace.specs.Prepared.{prepared_trace}
use Rattle.sv8_history.proofs.Common.{near_same, after_step, put_near}
use Rattle.sv8_trace.proofs.Preparing.{points_kept}
use Rattle.sv8_trace.proofs.trace.Trace.uncover_cell.Goals as goal

pub returns-in-None-clause-near : goal.returns-in-None-clause-near
returns-in-None-clause-near g c =
    let e = sym c.kept_value.ensures ∙ ap (option_map content_of) c.in-None.is in
    rw e (near_same (machine g.row.NW g.row.PAGES) g.row.K (prepared_trace g.row.NW g.row.PAGES g.row.K c.args.self.now c.args.staged.now))

pub returns-in_ok-keep-in-Some-clause-near : goal.returns-in_ok-keep-in-Some-clause-near
returns-in_ok-keep-in-Some-clause-near g c =
    let k = g.row.K in
    let pos = c.self.invariant.3 in
    let m = machine g.row.NW g.row.PAGES in
    let old = prepared_trace g.row.NW g.row.PAGES k c.args.self.now c.args.staged.now in
    let mid = prepared_trace g.row.NW g.row.PAGES k c.args.self.now c.spread_content.new.staged in
    let now = prepared_trace g.row.NW g.row.PAGES k c.args.self.now c.keep.new.staged in
    let near = c.in_ok-spread_content-in-Some.ensures.near (suc c.args.reach.from) (λ i. after_step k c.args.reach.from i pos) in
    let e = sym c.kept_value.ensures ∙ ap (option_map content_of) c.in-Some.is in
    let p = put_near m k pos old mid now (cell_of c.args.cell) (content_of c.in-Some.content) c.args.reach.from (suc c.args.reach.from) c.args.reach.to None near
    (ap (λ (s : Staged). s.count) c.keep.ensures.rest) refl (points_kept g.row.NW g.row.PAGES k c.args.self.now c.spread_content.new.staged c.keep.new.staged c.keep.ensures.rest) c.in_ok-keep-in-Some.ensures.kept in
    rw e p
