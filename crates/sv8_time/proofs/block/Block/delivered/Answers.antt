use Rattle.std.proofs.Common.{subst}
use Rattle.sv8_time.specs.Order.{Rising}
use Rattle.sv8_time.specs.Schedule.{input_before}
use Rattle.sv8_time.proofs.InputPlaces.{below_front}
use Rattle.sv8_time.proofs.block.Block.delivered.Goals as goal

pub returns : goal.returns
returns c = rw (c.start.ensures, c.count_below.ensures.value) (below_front c.args.before c.args.self.now (subst (λ l. Rising input_before l) c.self.view_is c.self.invariant.rising))
