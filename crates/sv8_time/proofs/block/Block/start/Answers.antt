use Rattle.std.proofs.Common.{rules}
use Rattle.sv8_time.proofs.InputPlaces.{start_is, start_past}
use Rattle.sv8_time.proofs.block.Block.start.Goals as goal

pub returns-in-Some : goal.returns-in-Some
returns-in-Some c = start_is c.args.self.now c.args.index c.in-Some.start (search rules)

pub returns-in-None : goal.returns-in-None
returns-in-None c = rw (c.self.invariant.total_is, c.self.view_is) (start_past c.args.self.now c.args.index (search rules))
