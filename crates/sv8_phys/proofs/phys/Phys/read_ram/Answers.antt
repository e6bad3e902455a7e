use Rattle.std.proofs.Common.{rules}
use Rattle.sv8_phys.proofs.Access.{ram_loads}
use Rattle.sv8_phys.proofs.phys.Phys.read_ram.Goals as goal

pub returns-clause-ok : goal.returns-clause-ok
returns-clause-ok g c = λ bytes. ram_loads _ _ _ _ _ _ _ (search rules) (search rules)
