use Rattle.std.proofs.Common.{◌<◌, sym, ◌∙◌, arith}
use Rattle.std.proofs.lemmas.Grind.{same_number_lists}
use Rattle.std.proofs.lemmas.List.FromFn.{get_or-map-range_with_len, length-map-range_with_len}
use Rattle.sv8_regs.specs.Ring.{read}
use Rattle.sv8_workbench.specs.Shown.{shown_registers}
use Rattle.sv8_workbench.proofs.shown.window_of.Goals as goal

pub returns : goal.returns
unfolding shown_registers
returns g c =
    same_number_lists _ _ (c.loop-number.invariant.0 ∙ sym (length-map-range_with_len (read g.row.NW c.args.registers.now) 0 32)) (λ k below.
    let in_window : k < 32 = omega (arith, c.loop-number.invariant.0) in
    let so_far : k < c.loop-number.number = omega arith in
    c.loop-number.invariant.1 k so_far ∙ sym (get_or-map-range_with_len (read g.row.NW c.args.registers.now) 0 32 k k 0 in_window (omega arith)))
