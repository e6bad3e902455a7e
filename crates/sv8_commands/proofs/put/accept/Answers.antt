use Rattle.std.proofs.Common.{[]}
use Rattle.sv8_commands.specs.Text.{ok_line}
use Rattle.sv8_commands.proofs.PutLemmas.{Puts-gained}
use Rattle.sv8_commands.proofs.put.accept.Goals as goal

pub returns : goal.returns
returns g c = Puts-gained c.send.result _ _ _ _ _ [] ok_line c.in_ok-make_room.ensures.gained (rw c.add_ok.ensures.text at c.send.ensures)
