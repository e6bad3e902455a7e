use Rattle.std.proofs.Common.{rules, not, ap, ◌∙◌, filter}
use Rattle.std.proofs.lemmas.Fn.{filter_same}
use Rattle.sv8_notes.specs.Cells.{cell_of}
use Rattle.sv8_notes.specs.Touched.{is_touched}
use Rattle.sv8_notes.proofs.kept.KeptList.drop_touched.Goals as goal

pub returns : goal.returns
returns c = filter_same _ (λ k. not (is_touched c.args.touches.now (cell_of k.cell))) _ (λ x b f h. let q = h.called in search rules) _ _ c.retain.ensures.filtered ∙ ap (filter (λ k. not (is_touched c.args.touches.now (cell_of k.cell)))) c.self.view_is
