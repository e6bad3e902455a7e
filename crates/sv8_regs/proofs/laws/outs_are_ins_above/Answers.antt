use Rattle.sv8_regs.proofs.Places.{read_shared}
use Rattle.sv8_regs.proofs.laws.outs_are_ins_above.Goals as goal

pub returns : goal.returns
returns g c = read_shared g.row.NW c.args.window c.args.r c.args.regs.now c.regs.invariant.1 c.requires.window c.requires.from_out c.requires.to_out
