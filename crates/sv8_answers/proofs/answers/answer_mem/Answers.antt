use Rattle.std.proofs.Common.{true, refl, sym}
use Rattle.sv8_workbench.specs.Faults.{words_refusal}
use Rattle.sv8_workbench.specs.Shown.{words_shown}
use Rattle.sv8_commands.specs.Text.{memory_text}
use Rattle.sv8_answers.specs.Outcome.{told}
use Rattle.sv8_answers.proofs.AnswerLemmas.{reply-done, reply-refused}
use Rattle.sv8_answers.proofs.answers.answer_mem.Goals as goal

pub returns-in-Ok-clause-replies : goal.returns-in-Ok-clause-replies
returns-in-Ok-clause-replies g c =
    let text = memory_text c.args.address (words_shown (g.B.Workbench.kept c.args.bench.now) c.args.step c.args.address c.args.count) in
    reply-done c.tell_words.result _ _ _ _ (words_refusal c.args.step c.args.address c.args.count (g.B.Workbench.kept c.args.bench.now)) (told true text) _
    c.in-Ok.ensures.within refl (sym c.in-Ok.ensures.kept) (rw (c.as_slice.ensures.value, c.in-Ok.ensures.shown) at c.tell_words.ensures)

pub returns-in-Err-clause-replies : goal.returns-in-Err-clause-replies
returns-in-Err-clause-replies g c =
    let text = memory_text c.args.address (words_shown (g.B.Workbench.kept c.args.bench.now) c.args.step c.args.address c.args.count) in
    reply-refused c.refuse.result _ _ _ _ (words_refusal c.args.step c.args.address c.args.count (g.B.Workbench.kept c.args.bench.now)) (told true text) c.in-Err.fault
    c.in-Err.ensures.refused refl c.in-Err.ensures.kept (rw c.refusal_of.ensures.value at c.refuse.ensures)
