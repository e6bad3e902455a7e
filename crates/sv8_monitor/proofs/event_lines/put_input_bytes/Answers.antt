use Rattle.sv8_commands.proofs.PutLemmas.{Gains-after}
use Rattle.sv8_monitor.proofs.event_lines.put_input_bytes.Goals as goal

pub returns : goal.returns
returns g c = Gains-after c.add_all.result _ _ _ _ _ _ _ _ c.in_ok-put_pieces.ensures c.add_all.ensures
