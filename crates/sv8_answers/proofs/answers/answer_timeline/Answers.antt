use Rattle.sv8_answers.proofs.EditLemmas.{reply-timeline, unless-edited}
use Rattle.sv8_answers.proofs.answers.answer_timeline.Goals as goal

pub returns-clause-replies : goal.returns-clause-replies
returns-clause-replies g c = reply-timeline c.tell_edit.result c.edit.result _ _ c.args.edit.now _ _ c.edit.ensures.accepted c.edit.ensures.edited c.edit.ensures.refused c.edit.ensures.unchanged c.tell_edit.ensures.told

pub returns-clause-unchanged : goal.returns-clause-unchanged
returns-clause-unchanged g c = unless-edited c.edit.result c.tell_edit.result _ _ c.edit.ensures.unchanged c.tell_edit.ensures.edited
