use Rattle.std.proofs.Common.{◌+◌, ◌<◌, sym, ◌∙◌, arith}
use Rattle.std.proofs.lemmas.Grind.{same_number_lists}
use Rattle.std.proofs.lemmas.List.FromFn.{get_or-map-range_with_len, length-map-range_with_len}
use Rattle.sv8_regs.specs.Ring.{read}
use Rattle.sv8_monitor.specs.Texts.{own_registers}
use Rattle.sv8_monitor.proofs.window_lines.own_registers.Goals as goal

pub returns : goal.returns
unfolding own_registers
returns g c =
    let register = read g.row.NW c.args.registers.now in
    same_number_lists _ _ (c.loop-place.invariant.0 ∙ sym (length-map-range_with_len register 8 16)) (λ k below.
    let own : k < 16 = omega (arith, c.loop-place.invariant.0) in
    let so_far : k < c.loop-place.place = omega arith in
    c.loop-place.invariant.1 k so_far ∙ sym (get_or-map-range_with_len register 8 16 k (8 + k) 0 own (omega arith)))
