use Rattle.std.proofs.Common.{arith}
use Rattle.sv8_memory.proofs.Late.{late_arrived}
use Rattle.sv8_memory.proofs.feed.Feed.end_step.Goals as goal

-- behind the last step nothing comes in
pub returns-else-self-lt4294967295 : goal.returns-else-self-lt4294967295
returns-else-self-lt4294967295 c = late_arrived _ _ (omega (arith, c.if-self-lt4294967295.false)) c.bounds.ensures.timeline
