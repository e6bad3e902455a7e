use Rattle.std.proofs.Common.{true, None, refl}
use Rattle.sv8_source.specs.Names.{names}
use Rattle.sv8_model.specs.declared.refused.Refused.TheVariants.{OutOfMemory}
use Rattle.sv8_answers.specs.Outcome.{told}
use Rattle.sv8_answers.proofs.AnswerLemmas.{reply-due, reply-refused}
use Rattle.sv8_monitor.specs.Texts.{names_text}
use Rattle.sv8_monitor.proofs.answers.answer_names.Goals as goal

pub returns-in-Ok : goal.returns-in-Ok
returns-in-Ok g c =
    reply-due c.tell_names.result _ _ _ (told true (names_text (names c.args.bench.now.kept.source))) (rw (c.as_slice.ensures.value, c.in-Ok.ensures) at c.tell_names.ensures)

pub returns-in-Err : goal.returns-in-Err
returns-in-Err g c =
    reply-refused c.refuse.result _ _ _ _ None (told true (names_text (names c.args.bench.now.kept.source))) OutOfMemory refl refl refl (rw c.refusal_of.ensures.value at c.refuse.ensures)
