use Rattle.std.proofs.Common.{◌++◌, ◌∷◌, [], ap, ◌∙◌}
use Rattle.std.proofs.lemmas.Bool.{MatchBool-at_false}
use Rattle.sv8_notes.specs.PageRuns.{expand}
use Rattle.sv8_notes.proofs.RunLists.{expand_more}
use Rattle.sv8_notes.proofs.runs.PageRuns.push.Goals as goal

pub returns : goal.returns
returns c =
    let same = MatchBool-at_false _ _ c.if-extend_last.false c.extend_last.ensures in
    ap expand c.in_ok-push.ensures.items
    ∙ expand_more c.extend_last.new.runs.items (record { page = c.args.page; count = 1 })
    ∙ ap (λ xs. xs ++ c.args.page ∷ []) (same ∙ c.self.view_is)
