use Rattle.std.proofs.Common.{[], arith}
use Rattle.sv8_commands.proofs.PutLemmas.{gained-more, Gains-long}
use Rattle.sv8_commands.proofs.put.add_long.Goals as goal

pub returns-then-bytes-room : goal.returns-then-bytes-room
returns-then-bytes-room g c = gained-more _ _ _ _ _ [] c.args.bytes.now c.in_ok-make_room.ensures.gained c.add.ensures.text

pub returns : goal.returns
returns g c = Gains-long c.put.result _ _ _ _ _ _ c.in_ok-make_room.ensures.gained (omega (arith, c.in_ok-make_room.ensures.room)) c.put.ensures
