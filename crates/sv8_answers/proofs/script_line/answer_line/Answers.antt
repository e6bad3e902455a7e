use Rattle.std.proofs.Common.{refl}
use Rattle.sv8_answers.specs.declared.effect.Effect.TheVariants.{Unchanged}
use Rattle.sv8_commands.specs.Order.{bad, order}
use Rattle.sv8_answers.specs.Session.{outcome}
use Rattle.sv8_answers.proofs.AnswerLemmas.{reply-bad}
use Rattle.sv8_answers.proofs.EffectLemmas.{puts-effect, if-unchanged}
use Rattle.sv8_answers.proofs.OrderLemmas.{reply-order}
use Rattle.sv8_answers.proofs.script_line.answer_line.Goals as goal

pub returns-in-Some-clause-replies : goal.returns-in-Some-clause-replies
unfolding outcome
returns-in-Some-clause-replies g c = λ all h.
    rw c.in-Ok.ensures (reply-order c.answer_edit.result _ _ (g.B.Workbench.kept c.args.bench.now) _ (order c.in-Ok.command all) (rw (← c.range.ensures, c.in-Some.is) (c.answer_edit.ensures.replies all h)))

pub returns-in-None-clause-replies : goal.returns-in-None-clause-replies
unfolding outcome
returns-in-None-clause-replies g c = λ all h.
    rw c.in-Ok.ensures (reply-order c.answer.result _ _ (g.B.Workbench.kept c.args.bench.now) _ (order c.in-Ok.command all) (rw (← c.range.ensures, c.in-None.is) c.answer.ensures.replies))

pub returns-in-Err-clause-replies : goal.returns-in-Err-clause-replies
returns-in-Err-clause-replies g c = λ all h.
    let put = puts-effect c.refuse.result c.with_effect.result Unchanged _ _ _ c.with_effect.ensures (rw c.bad_command.ensures.value at c.refuse.ensures) in
    rw c.in-Err.ensures (reply-order c.with_effect.result _ _ (g.B.Workbench.kept c.args.bench.now) _ bad (reply-bad c.with_effect.result _ _ (g.B.Workbench.kept c.args.bench.now) put))

pub returns-in-Err-clause-unchanged : goal.returns-in-Err-clause-unchanged
returns-in-Err-clause-unchanged g c = if-unchanged c.with_effect.result _ refl
