use Rattle.sv8_commands.specs.Put.{Gained}
use Rattle.sv8_monitor.specs.Texts.{own_registers, window_line}
use Rattle.sv8_monitor.proofs.Counted.{counted_text}
use Rattle.sv8_monitor.proofs.window_lines.put_windows.Given as goal

-- the lines of the windows below the present one
abbrev pub invariant-loop-window : goal.invariant-loop-window
invariant-loop-window g l =
    Gained (g.W.Write.contents l.initial.writer) (g.W.Write.contents l.writer) l.initial.text l.text
    (counted_text (λ w. window_line w (own_registers g.row.NW (record l.registers { cwp = w }))) 0 l.window)
