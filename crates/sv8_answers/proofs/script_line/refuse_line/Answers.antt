use Rattle.sv8_commands.specs.Order.{bad}
use Rattle.sv8_answers.proofs.AnswerLemmas.{reply-bad}
use Rattle.sv8_answers.proofs.OrderLemmas.{reply-order}
use Rattle.sv8_answers.proofs.script_line.refuse_line.Goals as goal

pub returns : goal.returns
returns g c = λ kept. reply-order c.refuse.result _ _ kept kept bad (reply-bad c.refuse.result _ _ kept (rw c.bad_command.ensures.value at c.refuse.ensures))
