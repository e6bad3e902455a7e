use Rattle.sv8_answers.specs.declared.effect.Effect.TheVariants.{Edited, Unchanged}
use Rattle.sv8_answers.proofs.EffectLemmas.{puts-effect, effect-is}
use Rattle.sv8_answers.proofs.tell.tell_edit.Goals as goal

pub returns-in-Ok-clause-told : goal.returns-in-Ok-clause-told
returns-in-Ok-clause-told g c = rw c.in-Ok.is (puts-effect c.done.result c.with_effect.result Edited _ _ _ c.with_effect.ensures c.done.ensures)

pub returns-in-Ok-clause-edited : goal.returns-in-Ok-clause-edited
returns-in-Ok-clause-edited g c = rw c.in-Ok.is (effect-is c.done.result c.with_effect.result Edited c.with_effect.ensures)

pub returns-in-Err-clause-told : goal.returns-in-Err-clause-told
returns-in-Err-clause-told g c =
    let put = rw c.refusal_of.ensures.value at c.refuse.ensures in
    rw c.in-Err.is (puts-effect c.refuse.result c.with_effect-in-Err.result Unchanged _ _ _ c.with_effect-in-Err.ensures put)
