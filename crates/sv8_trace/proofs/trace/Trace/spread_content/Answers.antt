use Rattle.std.proofs.Common.{◌+◌, ◌*◌, ◌/◌, min, arith, refl, ap, ◌∙◌}
use Rattle.sv8_notes.specs.Cells.{cell_of, content_of}
use Rattle.sv8_cpu.specs.Recorded.{machine}
use Rattle.sv8_trace.specs.declared.prepared.Staged.{Staged}
use Rattle.sv8_trace.specs.Prepared.{prepared_trace}
use Rattle.sv8_history.proofs.Common.{spread_near}
use Rattle.sv8_trace.proofs.Preparing.{kept_past, points_at, kept_same, raised_from}
use Rattle.sv8_trace.proofs.trace.Trace.spread_content.Goals as goal

pub returns-clause-near : goal.returns-clause-near
returns-clause-near g c = λ first lows.
    let k = g.row.K in
    let pos = c.self.invariant.3 in
    let m = machine g.row.NW g.row.PAGES in
    let r = c.args.self.now in
    let old = prepared_trace g.row.NW g.row.PAGES k c.args.self.now c.args.staged.now in
    let mid = prepared_trace g.row.NW g.row.PAGES k c.args.self.now c.set_points.new.staged in
    let now = prepared_trace g.row.NW g.row.PAGES k c.args.self.now c.raise.new.staged in
    let a = cell_of c.args.cell in
    let v = content_of c.args.content in
    spread_near m k pos old now a v c.args.low _ c.args.reach.to c.args.reach.wrote c.args.reach.from first (k * c.args.staged.now.count)
    (ap (λ (s : Staged). s.count) c.raise.ensures.rest ∙ c.set_points.ensures.count)
    refl
    (omega arith)
    (ap (λ x. x + 1) (c.min-end.ensures ∙ ap (λ x. min (x / k) c.args.staged.now.count) c.min-last.ensures))
    (points_at g.row.NW g.row.PAGES k pos r c.args.staged.now c.set_points.new.staged c.raise.new.staged a v c.args.low _ c.in_ok-set_points.ensures.points c.raise.ensures.rest)
    (raised_from m old mid now a v c.args.reach.to c.args.reach.wrote (kept_same g.row.NW g.row.PAGES k r c.args.staged.now c.set_points.new.staged (ap (λ l. l.items) c.set_points.ensures.kept) c.set_points.ensures.count) c.in_ok-raise.ensures.kept)
    (record { before = c.requires.first.before; at = c.requires.first.at })
    (λ h. kept_past k c.args.staged.now.count c.args.staged.now.count c.args.reach.to _ pos (omega arith) h)
    lows
