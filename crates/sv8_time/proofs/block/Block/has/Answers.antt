use Rattle.std.proofs.Common.{sym, []}
use Rattle.sv8_time.proofs.block.Block.has.Goals as goal

pub returns-in-Ok : goal.returns-in-Ok
returns-in-Ok c = let h = c.in-Ok.ensures [] in sym h.present

pub returns-in-Err : goal.returns-in-Err
returns-in-Err c = let h = c.in-Err.ensures [] in sym h.absent
