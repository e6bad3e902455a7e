use Rattle.std.proofs.Common.{rules}
use Rattle.sv8_phys.proofs.Console.{counts_waiting}
use Rattle.sv8_phys.proofs.phys.Phys.waiting_noted.Goals as goal

pub returns-clause-ok : goal.returns-clause-ok
returns-clause-ok g c = counts_waiting _ c.args.self.now _ _ _ (search rules) _ (search rules)
