use Rattle.std.proofs.Common.{arith}
use Rattle.std.proofs.lemmas.Grind.{common_steps}
use Rattle.sv8_notes.proofs.Common.{flag_none, flag_both}
use Rattle.sv8_evidence.proofs.signs.flag_traps.Goals as goal

pub loop-rest-preserved : goal.loop-rest-preserved
loop-rest-preserved c = λ last others. c.loop-rest.invariant last (flag_both _ _ last _ _ _ c.flag_trap.ensures others (λ i. grind (arith, common_steps)))

pub returns : goal.returns
returns c = c.loop-rest.invariant c.loop-rest.flags (flag_none c.loop-rest.flags _ (λ i h. grind (arith, common_steps)))
