use Rattle.std.proofs.Common.{rules, ap}
use Rattle.sv8_phys.specs.Contents.{Contents, outside_of}
use Rattle.sv8_phys.proofs.Access.{asks_levels}
use Rattle.sv8_phys.proofs.phys.Phys.pending_among.Goals as goal

pub returns-clause-ok : goal.returns-clause-ok
returns-clause-ok g c = λ bytes.
    asks_levels _ c.args.levels _ c.self.inside.pending (outside_of c.args.self.now bytes) _ _ c.asked.ensures (ap (λ (m : Contents). m.pending) c.self.view_is) (search rules)
