use Rattle.std.proofs.Common.{◌≡◌, true, map, refl, sym, ap}
use Rattle.sv8_bench.specs.Workbench.{Workbench}
use Rattle.sv8_answers.specs.Outcome.{told}
use Rattle.sv8_answers.proofs.AnswerLemmas.{reply-done, reply-refused}
use Rattle.sv8_search.specs.Search.{found_at, steps_refusal, steps_told}
use Rattle.sv8_monitor.specs.Texts.{steps_text}
use Rattle.sv8_monitor.proofs.QueryLemmas.{told-either-way, refused-either-way}
use Rattle.sv8_monitor.proofs.answers.answer_steps.Goals as goal

pub returns-in-Ok : goal.returns-in-Ok
returns-in-Ok g c =
    let kept = c.args.bench.now.kept in
    let text = steps_text (map (found_at kept) (steps_told kept c.args.from c.args.to c.args.count c.args.conditions)) in
    let same = told-either-way (c.steps.new.bench.kept ≡ kept) c.args.from c.args.to c.args.count
    (λ h. ap (λ (w : Workbench). w.kept) (c.in-Ok.ensures.idle h)) (λ h k. (c.in-Ok.ensures.risen h k).kept) (λ h k. (c.in-Ok.ensures.fallen h k).kept) in
    reply-done c.tell_pieces.result _ _ _ _ (steps_refusal c.args.from c.args.to c.args.conditions kept) (told true text) _ (rw c.as_slice.ensures at c.in-Ok.ensures.within) refl (sym same)
    (rw (c.as_slice-in-Ok.ensures.value, c.in-Ok.ensures.found, c.as_slice.ensures) at c.tell_pieces.ensures)

pub returns-in-Err : goal.returns-in-Err
returns-in-Err g c =
    let kept = c.args.bench.now.kept in
    let text = steps_text (map (found_at kept) (steps_told kept c.args.from c.args.to c.args.count c.args.conditions)) in
    let same = refused-either-way (c.steps.new.bench.kept ≡ kept) c.args.from c.args.to
    (λ h. (c.in-Err.ensures.rising_given_up h).kept) (λ h. (c.in-Err.ensures.falling_given_up h).kept) in
    reply-refused c.refuse.result _ _ _ _ (steps_refusal c.args.from c.args.to c.args.conditions kept) (told true text) c.in-Err.fault (rw c.as_slice.ensures at c.in-Err.ensures.refused) refl same
    (rw c.refusal_of.ensures.value at c.refuse.ensures)
