use Rattle.std.proofs.Common.{◌++◌, ◌∷◌, [], ap, ◌∙◌}
use Rattle.sv8_notes.specs.Kept.{kept_in}
use Rattle.sv8_notes.proofs.KeptLists.{kept_in-with}
use Rattle.sv8_notes.proofs.kept.KeptList.insert.Goals as goal

pub returns : goal.returns
returns c = λ j cell.
    ap (kept_in j cell) (c.in_ok-push.ensures ∙ ap (λ l. l ++ record { offset = c.args.offset; cell = c.args.cell; content = c.args.content } ∷ []) c.drop_value.ensures)
    ∙ kept_in-with c.args.offset c.args.cell j cell c.args.content c.args.self.now
