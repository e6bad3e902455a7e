use Rattle.std.proofs.Common.{[]}
use Rattle.sv8_commands.specs.Text.{ok_line}
use Rattle.sv8_commands.proofs.PutLemmas.{Puts-gained}
use Rattle.sv8_monitor.proofs.answers.tell_events.Goals as goal

pub returns : goal.returns
returns g c = Puts-gained c.accept.result _ _ _ [] _ _ ok_line (rw c.new-text.ensures at c.in_ok-put_events.ensures) c.accept.ensures
