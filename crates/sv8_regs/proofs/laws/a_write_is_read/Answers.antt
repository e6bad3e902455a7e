use Rattle.std.proofs.Common.{◌<◌, sym, ap, ◌∙◌, length, arith}
use Rattle.std.proofs.lemmas.List.{length-take-le}
use Rattle.sv8_regs.specs.Ring.{Registers}
use Rattle.sv8_regs.proofs.Places.{read_written}
use Rattle.sv8_regs.proofs.Current.{length-ring}
use Rattle.sv8_regs.proofs.laws.a_write_is_read.Goals as goal

pub returns : goal.returns
returns g c =
    let cwp_is = ap (λ (s : Registers). s.cwp) (sym c.regs.view_is) in
    let cwp_in : c.args.regs.now.cwp < g.row.NW = rw cwp_is c.regs.invariant.0 in
    let globals_are = ap (λ (s : Registers). length s.globals) (sym c.regs.view_is) in
    let ring_is = ap (λ (s : Registers). length s.ring) (sym c.regs.view_is) in
    read_written g.row.NW c.args.regs.now c.regs.invariant.1 cwp_in c.args.r c.args.value c.requires.not_zero c.requires.register (globals_are ∙ length-take-le 8 c.regs.inside.current (omega arith)) (ring_is ∙ length-ring g.row.NW _ c.regs.invariant.0 _ _)
