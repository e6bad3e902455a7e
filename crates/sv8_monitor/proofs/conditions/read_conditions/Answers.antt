use Rattle.std.proofs.Common.{◌∙◌, ◌<◌, ◌∷◌, [], length, sym, ap, arith, length-append}
use Rattle.sv8_commands.specs.Words.{words_of}
use Rattle.sv8_monitor.proofs.ConditionLemmas.{with_others, read-start, read-more}
use Rattle.sv8_monitor.proofs.conditions.read_conditions.Goals as goal

pub loop-name-init : goal.loop-name-init
loop-name-init c = rw c.new-conditions.ensures (omega arith, read-start (words_of c.args.text.now))

pub loop-name-preserved : goal.loop-name-preserved
loop-name-preserved c =
    let read = c.loop-name.conditions in
    let few : length read < 32 = omega (arith, ap length c.as_slice.ensures) in
    let more = read-more read c.in_ok-condition.condition c.in-Some.name.now (words_of c.in-Some.after.now) (words_of c.in_ok-condition.after.now) few c.in_ok-condition.ensures in
    let whole = more ∙ ap (with_others read) (sym c.in-Some.ensures) ∙ c.loop-name.invariant.1 in
    rw c.push.ensures (omega (arith, length-append read (c.in_ok-condition.condition ∷ [])), whole)
