use Rattle.std.proofs.Common.{true, refl, sym}
use Rattle.sv8_workbench.specs.Faults.{step_refusal}
use Rattle.sv8_workbench.specs.Shown.{shown_at}
use Rattle.sv8_answers.specs.Text.{regs_text}
use Rattle.sv8_answers.specs.Outcome.{told}
use Rattle.sv8_answers.proofs.AnswerLemmas.{reply-done, reply-refused}
use Rattle.sv8_answers.proofs.answers.answer_regs.Goals as goal

pub returns-in-Ok-clause-replies : goal.returns-in-Ok-clause-replies
returns-in-Ok-clause-replies g c =
    let text = regs_text c.args.step (shown_at (g.B.Workbench.kept c.args.bench.now) c.args.step) in
    reply-done c.tell_regs.result _ _ _ _ (step_refusal c.args.step) (told true text) _ c.in-Ok.ensures.within refl (sym c.in-Ok.ensures.kept) (rw c.in-Ok.ensures.shown at c.tell_regs.ensures)

pub returns-in-Err-clause-replies : goal.returns-in-Err-clause-replies
returns-in-Err-clause-replies g c =
    let text = regs_text c.args.step (shown_at (g.B.Workbench.kept c.args.bench.now) c.args.step) in
    reply-refused c.refuse.result _ _ _ _ (step_refusal c.args.step) (told true text) c.in-Err.fault c.in-Err.ensures.refused refl c.in-Err.ensures.kept (rw c.refusal_of.ensures.value at c.refuse.ensures)
