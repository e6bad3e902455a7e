use Rattle.std.proofs.Common.{sym}
use Rattle.sv8_time.proofs.Nexts.{next_found}
use Rattle.sv8_time.proofs.pokes.Pokes.next.Goals as goal

pub returns : goal.returns
returns c = rw (c.first_poked.ensures, c.offset_of-offset.ensures, c.at_behind.ensures, sym c.self.view_is) (next_found c.args.address c.args.after c.self.inside.words c.self.inside.by_address c.self.invariant)
