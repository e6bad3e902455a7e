use Rattle.std.proofs.Common.{[]}
use Rattle.sv8_phys.proofs.Calls.{ticks}
use Rattle.sv8_phys.proofs.phys.Phys.tick.Goals as goal

pub returns : goal.returns
returns g c = ticks c.args.self.now c.tick_noted.new.self c.in-Ok.ensures.taken (c.in-Ok.ensures.ok [])
