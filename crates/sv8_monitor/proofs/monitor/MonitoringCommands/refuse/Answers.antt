use Rattle.std.proofs.Common.{refl}
use Rattle.sv8_commands.specs.Order.{bad}
use Rattle.sv8_monitor.proofs.MonitorLemmas.{reply-on-now}
use Rattle.sv8_monitor.proofs.monitor.MonitoringCommands.refuse.Goals as goal

pub returns : goal.returns
returns g c = λ kept. reply-on-now c.refuse_line.result _ _ kept kept bad (c.refuse_line.ensures kept.now) refl
