use Rattle.std.proofs.Common.{rules, not, ap, ◌∙◌, filter}
use Rattle.std.proofs.lemmas.Fn.{filter_same}
use Rattle.sv8_notes.specs.Cells.{cell_of}
use Rattle.sv8_notes.specs.Kept.{is_kept_of}
use Rattle.sv8_notes.proofs.kept.KeptList.drop_value.Goals as goal

pub returns : goal.returns
returns c = filter_same _ (λ k. not (is_kept_of c.args.offset (cell_of c.args.cell) k)) _ (λ x b f h. let q = h.called in search rules) _ _ c.retain.ensures.filtered ∙ ap (filter (λ k. not (is_kept_of c.args.offset (cell_of c.args.cell) k))) c.self.view_is
