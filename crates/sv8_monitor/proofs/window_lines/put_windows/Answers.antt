use Rattle.std.proofs.Common.{arith}
use Rattle.sv8_commands.proofs.PutLemmas.{gains-failed, gained-none}
use Rattle.sv8_monitor.specs.Texts.{own_registers, window_line}
use Rattle.sv8_monitor.proofs.Counted.{counted-cut, counted-next}
use Rattle.sv8_monitor.proofs.window_lines.put_windows.Goals as goal

pub loop-window-init : goal.loop-window-init
loop-window-init g c = gained-none _ _

pub returns-in_err-put_window : goal.returns-in_err-put_window
returns-in_err-put_window g c = gains-failed c.from_residual.result _ _ _ _ _ c.from_residual.ensures.0 (counted-cut (λ w. window_line w (own_registers g.row.NW (record c.args.registers.now { cwp = w }))) 0 g.row.NW c.loop-window.window c.loop-window.window _ _ _ _ _ (omega arith) (omega arith)
    c.loop-window.invariant c.in_err-put_window.ensures)

pub loop-window-preserved : goal.loop-window-preserved
loop-window-preserved g c =
    counted-next (λ w. window_line w (own_registers g.row.NW (record c.args.registers.now { cwp = w }))) 0 c.loop-window.window c.loop-window.window _ _ _ _ _ _ (omega arith)
    c.loop-window.invariant c.in_ok-put_window.ensures
