use Rattle.std.proofs.Common.{true, refl, sym}
use Rattle.sv8_workbench.specs.Faults.{step_refusal}
use Rattle.sv8_workbench.specs.Shown.{machine_state}
use Rattle.sv8_answers.specs.Outcome.{told}
use Rattle.sv8_answers.proofs.AnswerLemmas.{reply-done, reply-refused}
use Rattle.sv8_monitor.specs.Texts.{windows_text}
use Rattle.sv8_monitor.proofs.answers.answer_windows.Goals as goal

pub returns-in-Ok : goal.returns-in-Ok
returns-in-Ok g c =
    let kept = c.args.bench.now.kept in
    let text = windows_text kept.windows (machine_state kept c.args.step).processor.registers in
    reply-done c.tell_windows.result _ _ _ _ (step_refusal c.args.step) (told true text) _ c.in-Ok.ensures.within refl (sym c.in-Ok.ensures.answered.kept)
    (rw (c.registers.ensures, c.in-Ok.ensures.state, ← c.sizes.ensures.windows) at c.tell_windows.ensures)

pub returns-in-Err : goal.returns-in-Err
returns-in-Err g c =
    let kept = c.args.bench.now.kept in
    let text = windows_text kept.windows (machine_state kept c.args.step).processor.registers in
    reply-refused c.refuse.result _ _ _ _ (step_refusal c.args.step) (told true text) c.in-Err.fault c.in-Err.ensures.refused refl c.in-Err.ensures.given_up.kept (rw c.refusal_of.ensures.value at c.refuse.ensures)
