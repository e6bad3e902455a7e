use Rattle.sv8_regs.proofs.Moves.{words_taken}
use Rattle.sv8_regs.proofs.words.take_out.Goals as goal

pub returns-clause-window : goal.returns-clause-window
returns-clause-window g c =
    let first = c.copy_words.ensures in
    let second = c.copy_words-2.ensures in
    words_taken g.row.NW c.args.window c.window_above-above.result c.requires.inside c.window_above-above.ensures.value c.window_above-above.ensures.in_range c.args.rows.now c.copy_words.new.to c.copy_words-2.new.to first.copied second.copied second.before
