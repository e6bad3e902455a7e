use Rattle.std.proofs.Common.{◌∙◌}
use Rattle.sv8_answers.proofs.AnswerLemmas.{reply-first}
use Rattle.sv8_answers.proofs.answers.answer_input.Goals as goal

pub returns-clause-replies : goal.returns-clause-replies
returns-clause-replies g c =
    reply-first _ _ _ _ _ c.args.step _ c.args.bytes (c.new-bytes.ensures ∙ c.as_slice.ensures.value ∙ c.first-first.ensures.bytes) c.answer_timeline.ensures.replies
