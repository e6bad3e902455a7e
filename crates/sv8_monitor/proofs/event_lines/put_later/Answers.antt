use Rattle.sv8_commands.proofs.PutLemmas.{Gains-after}
use Rattle.sv8_monitor.proofs.event_lines.put_later.Goals as goal

pub returns : goal.returns
returns g c = Gains-after c.put_pieces.result _ _ _ _ _ _ _ _ c.in_ok-put_input.ensures c.put_pieces.ensures
