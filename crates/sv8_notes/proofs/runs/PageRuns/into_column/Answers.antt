use Rattle.std.proofs.Common.{◌++◌, ap, sym, ◌∙◌, replicate}
use Rattle.sv8_notes.proofs.RunLists.{expand_more}
use Rattle.sv8_notes.proofs.runs.PageRuns.into_column.Goals as goal

pub loop-run-preserved : goal.loop-run-preserved
loop-run-preserved c =
    c.in_ok-add_to.ensures
    ∙ ap (λ xs. xs ++ replicate c.in-Some.run'.count c.in-Some.run'.page) c.loop-run.invariant
    ∙ sym (expand_more c.loop-run.yielded c.in-Some.run')
