use Rattle.std.proofs.Common.{◌-◌}
use Rattle.sv8_commands.specs.Put.{Gained}
use Rattle.sv8_monitor.specs.Events.{step_events}
use Rattle.sv8_monitor.proofs.Counted.{counted_text}
use Rattle.sv8_monitor.proofs.event_lines.put_events.Given as goal

-- the lines of the steps below the present one
abbrev pub invariant-loop-step : goal.invariant-loop-step
invariant-loop-step g l =
    Gained (g.W.Write.contents l.initial.writer) (g.W.Write.contents l.writer) l.initial.text l.text (counted_text (step_events l.timeline) l.from (l.step - l.from))
