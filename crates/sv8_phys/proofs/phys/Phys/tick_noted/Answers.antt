use Rattle.std.proofs.Common.{rules, ap}
use Rattle.sv8_phys.proofs.Access.{tick_none, tick_last, tick_down}
use Rattle.sv8_phys.specs.Contents.{outside_of}
use Rattle.sv8_phys.proofs.phys.Phys.tick_noted.Goals as goal

pub returns-in-0-clause-ok : goal.returns-in-0-clause-ok
returns-in-0-clause-ok g c = λ bytes. tick_none _ _ _ _ (search rules)

pub returns-in_ok-expire-in-1-clause-ok : goal.returns-in_ok-expire-in-1-clause-ok
returns-in_ok-expire-in-1-clause-ok g c = λ bytes. tick_last _ _ _ _ _ _ _ (search rules) (c.in_ok-expire-in-1.ensures.ok bytes)

pub returns-in_default-clause-ok : goal.returns-in_default-clause-ok
returns-in_default-clause-ok g c = λ bytes. tick_down _ _ _ _ _ _ (search rules) (search rules) (ap (λ m. outside_of m bytes) c.self.view_is)
