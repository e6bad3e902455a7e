use Rattle.std.proofs.Common.{◌∙◌, replicate}
use Rattle.std.proofs.lemmas.List.{get_or-replicate}
use Rattle.sv8_regs.specs.Ring.{flat}
use Rattle.sv8_regs.proofs.Moves.{ring_stays, zeros_left}
use Rattle.sv8_regs.proofs.Rows.{length-flat}
use Rattle.sv8_regs.proofs.words.change_window.Goals as goal

pub returns-clause-ring : goal.returns-clause-ring
returns-clause-ring g c =
    let n = g.row.NW in
    let rows = c.put.new.rows in
    ring_stays n c.args.to c.requires.some c.requires.inside_to (flat n rows) _ (replicate 32 0) _ c.put-2.ensures (length-flat n rows) c.take_out.ensures.window
    ∙ c.put.ensures

pub returns-clause-vacant : goal.returns-clause-vacant
returns-clause-vacant g c =
    let before = flat g.row.NW c.put.new.rows in
    zeros_left g.row.NW c.args.to c.requires.some c.requires.inside_to before _ (replicate 32 0) c.take_out.new.current c.put-2.ensures
    (λ r within. get_or-replicate 32 r 0 0 within)
