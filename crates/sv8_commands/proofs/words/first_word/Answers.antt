use Rattle.std.proofs.Common.{◌≡◌, ◌∙◌, length, sym, arith, refl}
use Rattle.std.proofs.lemmas.List.{take_rest}
use Rattle.sv8_commands.specs.Words.{words_of}
use Rattle.sv8_commands.proofs.WordLemmas.{word-ends, word-whole}
use Rattle.sv8_commands.proofs.words.first_word.Goals as goal

pub loop-end-init : goal.loop-end-init
unfolding words_of
loop-end-init c = refl

pub returns-then-is_gap : goal.returns-then-is_gap
returns-then-is_gap c =
    rw take_rest (word-ends c.args.text.now c.loop-end.end (omega arith) c.requires (sym c.is_gap.ensures ∙ c.if-is_gap.true) c.loop-end.invariant)

pub returns : goal.returns
returns c =
    let e : c.loop-end.end ≡ length c.args.text.now = omega arith in
    rw take_rest (word-whole c.args.text.now c.requires (rw e at c.loop-end.invariant))
