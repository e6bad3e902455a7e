use Rattle.std.proofs.Common.{◌≡◌, true, get_or, arith, rules}
use Rattle.sv8_commands.specs.Words.{is_gap}
use Rattle.sv8_commands.proofs.WordLemmas.{words_of-rest, words_of-none}
use Rattle.sv8_commands.proofs.words.next_word.Goals as goal

pub loop-rest-preserved : goal.loop-rest-preserved
loop-rest-preserved c =
    let gap : is_gap (get_or c.loop-rest.rest.now 0 0) ≡ true = search rules in
    words_of-rest c.args.text.now c.loop-rest.rest.now (omega arith) gap c.loop-rest.invariant

pub returns : goal.returns
returns c = words_of-none c.args.text.now c.loop-rest.rest.now c.in_default.len_below c.loop-rest.invariant
