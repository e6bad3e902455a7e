use Rattle.std.proofs.Common.{arith}
use Rattle.sv8_commands.proofs.PutLemmas.{Wrote-range}
use Rattle.sv8_commands.proofs.put.put.Goals as goal

pub loop-turn-preserved : goal.loop-turn-preserved
loop-turn-preserved g c = Wrote-range _ _ _ _ _ _ _ c.loop-turn.invariant c.in-Ok.ensures.bytes (omega arith) c.in-Ok.ensures.bound
