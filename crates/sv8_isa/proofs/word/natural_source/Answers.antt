use Rattle.std.proofs.Common.{◌<◌, arith}
use Rattle.std.proofs.lemmas.Grind.{common_steps}
use Rattle.std.proofs.lemmas.Nat.{pow_below}
use Rattle.sv8_isa.proofs.word.natural_source.Goals as goal

pub returns-in-Some-clause-value : goal.returns-in-Some-clause-value
returns-in-Some-clause-value c =
    let below = pow_below c.args.width 13 (omega arith) in
    let small : c.in-Some.low < 8192 = omega (arith, c.in-Some.ensures.small) in
    grind (arith, common_steps)

pub returns-in-Some-clause-small : goal.returns-in-Some-clause-small
returns-in-Some-clause-small c =
    let below = pow_below c.args.width 13 (omega arith) in
    let small : c.in-Some.low < 8192 = omega (arith, c.in-Some.ensures.small) in
    grind (arith, common_steps)
