use Rattle.sv8_regs.proofs.Moves.{rows_put}
use Rattle.sv8_regs.proofs.words.put.Goals as goal

pub returns : goal.returns
returns g c =
    let first = c.copy_words.ensures in
    let second = c.copy_words-2.ensures in
    rows_put g.row.NW c.args.window c.window_above-above.result c.requires.some c.requires.inside c.window_above-above.ensures.value c.window_above-above.ensures.in_range c.args.rows.now c.copy_words.new.to c.copy_words-2.new.to c.told-rows c.args.words.now first.copied second.copied second.after
