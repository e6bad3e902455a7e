use Rattle.std.proofs.Common.{rules, arith, ap, ◌+◌}
use Rattle.sv8_phys.specs.Contents.{Contents}
use Rattle.sv8_phys.proofs.Console.{takes_byte, takes_none, none_at}
use Rattle.sv8_phys.proofs.phys.Phys.take_input_noted.Goals as goal

pub returns-in-Some-clause-ok : goal.returns-in-Some-clause-ok
returns-in-Some-clause-ok g c = takes_byte _ c.args.self.now _ _ _ (search rules) _ _ (ap (λ (m : Contents). record m { taken = m.taken + 1 }) c.self.view_is) (search rules)

pub returns-in_default-clause-ok : goal.returns-in_default-clause-ok
returns-in_default-clause-ok g c = takes_none _ c.args.self.now _ _ _ (search rules) (none_at _ _ (search rules))

pub returns-else-self-count_below-clause-ok : goal.returns-else-self-count_below-clause-ok
returns-else-self-count_below-clause-ok g c = takes_none _ c.args.self.now _ _ _ (search rules) (omega (arith, c.count_below.ensures, ap (λ (m : Contents). m.taken) c.self.view_is))
