use Rattle.std.proofs.Common.{◌+◌, ◌++◌, false, refl, ap, arith}
use Rattle.sv8_model.specs.declared.refused.Refused.TheVariants.{By}
use Rattle.sv8_time.specs.declared.fault.TimeFault.TheVariants.{StepTooLarge}
use Rattle.sv8_workbench.specs.declared.fault.BenchFault.TheVariants.{Time}
use Rattle.sv8_answers.specs.Refusal.{refusal_of}
use Rattle.sv8_commands.specs.Text.{ok_line}
use Rattle.sv8_answers.specs.Outcome.{told, refused}
use Rattle.sv8_answers.proofs.AnswerLemmas.{reply-done, reply-due}
use Rattle.sv8_search.specs.Comparing.{range_refusal}
use Rattle.sv8_monitor.specs.Events.{events_text}
use Rattle.sv8_search.proofs.Faults.{range-right, range-wrong}
use Rattle.sv8_monitor.proofs.QueryLemmas.{events-none}
use Rattle.sv8_monitor.proofs.answers.answer_events.Goals as goal

pub returns-then-first-gt-LAST_STEP : goal.returns-then-first-gt-LAST_STEP
returns-then-first-gt-LAST_STEP g c =
    rw (range-wrong c.args.first c.args.last c.then-first-gt-LAST_STEP.either)
    (reply-due c.refuse.result _ _ _ (refused (refusal_of (By (Time StepTooLarge)))) (rw c.refusal_of.ensures.value at c.refuse.ensures))

pub returns-then-last-first : goal.returns-then-last-first
returns-then-last-first g c =
    let timeline = c.args.bench.now.kept.timeline in
    let none = events-none timeline c.args.first (c.args.last + 1) (omega arith) in
    reply-done c.done.result _ _ _ _ (range_refusal c.args.first c.args.last) (told false (events_text timeline c.args.first (c.args.last + 1))) ok_line
    (range-right c.args.first c.args.last (omega arith) (omega arith)) (ap (λ l. l ++ ok_line) none) refl c.done.ensures

pub returns : goal.returns
returns g c =
    let timeline = c.args.bench.now.kept.timeline in
    reply-done c.tell_events.result _ _ _ _ (range_refusal c.args.first c.args.last) (told false (events_text timeline c.args.first (c.args.last + 1))) _
    (range-right c.args.first c.args.last (omega arith) (omega arith)) refl refl (rw c.timeline.ensures at c.tell_events.ensures)
