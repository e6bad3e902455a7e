use Rattle.sv8_answers.proofs.AnswerLemmas.{reply-due}
use Rattle.sv8_answers.proofs.answers.answer_quit.Goals as goal

pub returns : goal.returns
returns g c = reply-due c.done.result _ _ _ _ c.done.ensures
