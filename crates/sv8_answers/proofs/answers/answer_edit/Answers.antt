use Rattle.sv8_source.specs.Text.{texts}
use Rattle.sv8_answers.proofs.AnswerLemmas.{reply-source}
use Rattle.sv8_answers.proofs.EditLemmas.{unless-edited}
use Rattle.sv8_answers.proofs.answers.answer_edit.Goals as goal

pub returns-clause-replies : goal.returns-clause-replies
returns-clause-replies g c = λ kept e.
    let edit = c.replace_lines.ensures in
    reply-source c.tell_edit.result c.replace_lines.result _ _ _ _ c.args.first c.args.last (texts c.args.lines.now) kept e edit.accepted edit.edited edit.refused edit.unchanged c.tell_edit.ensures.told

pub returns-clause-unchanged : goal.returns-clause-unchanged
returns-clause-unchanged g c = unless-edited c.replace_lines.result c.tell_edit.result _ _ c.replace_lines.ensures.unchanged c.tell_edit.ensures.edited
