use Rattle.std.proofs.Common.{◌*◌, true, refl, sym}
use Rattle.sv8_workbench.specs.Shown.{machine_state}
use Rattle.sv8_answers.specs.Outcome.{told}
use Rattle.sv8_answers.proofs.AnswerLemmas.{reply-done, reply-refused}
use Rattle.sv8_search.specs.Comparing.{range_refusal, differences}
use Rattle.sv8_monitor.specs.Texts.{differences_text}
use Rattle.sv8_monitor.proofs.monitor.compare_memories.Goals as goal

pub returns-in-Ok-clause-replies : goal.returns-in-Ok-clause-replies
returns-in-Ok-clause-replies g c =
    let now = c.args.now.now.kept in
    let before = c.args.before.now.kept in
    let text = differences_text (differences (4096 * now.pages) (machine_state before c.args.at_before).memory.ram (machine_state now c.args.at_now).memory.ram c.args.count) in
    reply-done c.tell_pieces.result _ _ _ _ (range_refusal c.args.at_now c.args.at_before) (told true text) _ c.in-Ok.ensures.within refl (sym c.in-Ok.ensures.now_answered.kept)
    (rw (c.as_slice.ensures.value, c.in-Ok.ensures.found, ← c.sizes.ensures.pages) at c.tell_pieces.ensures)

pub returns-in-Err-clause-replies : goal.returns-in-Err-clause-replies
returns-in-Err-clause-replies g c =
    let now = c.args.now.now.kept in
    let before = c.args.before.now.kept in
    let text = differences_text (differences (4096 * now.pages) (machine_state before c.args.at_before).memory.ram (machine_state now c.args.at_now).memory.ram c.args.count) in
    reply-refused c.refuse.result _ _ _ _ (range_refusal c.args.at_now c.args.at_before) (told true text) c.in-Err.fault c.in-Err.ensures.refused refl c.in-Err.ensures.now_given_up.kept
    (rw c.refusal_of.ensures.value at c.refuse.ensures)
