use Rattle.std.proofs.Common.{[], refl}
use Rattle.sv8_answers.specs.declared.effect.Effect.TheVariants.{Unchanged}
use Rattle.sv8_answers.proofs.EffectLemmas.{reply-effect, if-unchanged}
use Rattle.sv8_answers.proofs.answers.answer.Goals as goal

pub returns-in-Edit-clause-replies : goal.returns-in-Edit-clause-replies
returns-in-Edit-clause-replies g c = rw c.in-Edit.is (c.answer_edit.ensures.replies [] refl)

pub returns-in-Timeline-clause-replies : goal.returns-in-Timeline-clause-replies
returns-in-Timeline-clause-replies g c = rw c.in-Timeline.is c.answer_timeline.ensures.replies

pub returns-in-Ask-clause-replies : goal.returns-in-Ask-clause-replies
returns-in-Ask-clause-replies g c = rw c.in-Ask.is (reply-effect c.answer_query.result c.with_effect.result Unchanged _ _ _ _ _ c.with_effect.ensures c.answer_query.ensures.replies)

pub returns-in-Ask-clause-alike : goal.returns-in-Ask-clause-alike
returns-in-Ask-clause-alike g c = g.met.B.Workbench.kept_alike _ _ c.answer_query.ensures.kept

pub returns-in-Ask-clause-unchanged : goal.returns-in-Ask-clause-unchanged
returns-in-Ask-clause-unchanged g c = if-unchanged c.with_effect.result _ c.answer_query.ensures.kept

pub returns-in-Quit-clause-replies : goal.returns-in-Quit-clause-replies
returns-in-Quit-clause-replies g c = rw c.in-Quit.is (reply-effect c.answer_quit.result c.with_effect-in-Quit.result Unchanged _ _ _ _ _ c.with_effect-in-Quit.ensures c.answer_quit.ensures)

pub returns-in-Quit-clause-unchanged : goal.returns-in-Quit-clause-unchanged
returns-in-Quit-clause-unchanged g c = if-unchanged c.with_effect-in-Quit.result _ refl
