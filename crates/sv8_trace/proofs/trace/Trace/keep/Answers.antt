use Rattle.std.proofs.Common.{◌==◌, ◌&&◌, ◌%◌, cond, List, Option, option_map, ap, ap₂, sym, ◌∙◌, refl}
use Rattle.sv8_model.specs.Cells.{same_cell}
use Rattle.sv8_notes.specs.Cells.{cell_of, content_of}
use Rattle.sv8_notes.specs.Kept.{kept_in}
use Rattle.sv8_notes.specs.declared.cell.Content.{Content}
use Rattle.sv8_notes.specs.declared.kept.Kept.{Kept}
use Rattle.sv8_trace.specs.declared.prepared.Staged.{Staged}
use Rattle.sv8_trace.proofs.Preparing.{kept_put}
use Rattle.sv8_trace.proofs.trace.Trace.keep.Goals.{in-Some+in_ok-insert-in-Some, in-None}
use Rattle.sv8_trace.proofs.trace.Trace.keep.Goals as goal

pub returns-clause-kept : goal.returns-clause-kept
returns-clause-kept g c =
    kept_put g.row.NW g.row.PAGES g.row.K c.args.self.now c.args.staged.now c.list.new.staged.count c.list.new.staged.kept.items _ c.match-content.list c.args.step (cell_of c.args.cell) (option_map content_of c.args.content)
    c.requires.step c.requires.fits.lists_count (ap (λ (s : Staged). s.count) c.in_ok-list.ensures.rest) c.in_ok-list.ensures.kept refl
    (λ j b.
    let with = λ (o : Option Content) (l : List Kept). cond (j == c.args.step % g.row.K && same_cell (cell_of c.args.cell) b) (option_map content_of o) (kept_in j b l) in
    elim c.match-content.branch [
      | in-Some+in_ok-insert-in-Some w ↦ ap (kept_in j b) w.list-is ∙ w.in_ok-insert-in-Some.ensures j b ∙ ap₂ with (sym w.in-Some.is) c.in_ok-list.ensures.list
      | in-None w ↦ ap (kept_in j b) w.list-is ∙ w.remove.ensures j b ∙ ap₂ with (sym w.in-None.is) c.in_ok-list.ensures.list
    ])
