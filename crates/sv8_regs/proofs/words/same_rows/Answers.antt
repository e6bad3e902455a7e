use Rattle.std.proofs.Common.{arith}
use Rattle.std.proofs.lemmas.Grind.{common_steps}
use Rattle.sv8_regs.proofs.Sameness.{row_unlike}
use Rattle.sv8_regs.proofs.words.same_rows.Goals as goal

pub loop-window-preserved : goal.loop-window-preserved
loop-window-preserved g c =
    let here = c.same_words-same.ensures in
    let unlike = row_unlike g.row.NW c.loop-window.window c.args.one.now c.args.other.now c.loop-window-test.true here.len here.other_len in
    grind (arith, common_steps)
