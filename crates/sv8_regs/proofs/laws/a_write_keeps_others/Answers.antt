use Rattle.std.proofs.Common.{◌<◌, sym, ap}
use Rattle.sv8_regs.specs.Ring.{Registers}
use Rattle.sv8_regs.proofs.Places.{read_other}
use Rattle.sv8_regs.proofs.laws.a_write_keeps_others.Goals as goal

pub returns : goal.returns
returns g c =
    let cwp_is = ap (λ (s : Registers). s.cwp) (sym c.regs.view_is) in
    let cwp_in : c.args.regs.now.cwp < g.row.NW = rw cwp_is c.regs.invariant.0 in
    read_other g.row.NW c.args.regs.now c.regs.invariant.1 cwp_in c.args.r c.args.other c.args.value c.requires.register c.requires.register_read c.requires.apart
