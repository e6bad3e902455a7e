use Rattle.std.proofs.Common.{rules}
use Rattle.sv8_phys.proofs.Access.{ram_stores}
use Rattle.sv8_phys.proofs.phys.Phys.write_ram.Goals as goal

pub returns-clause-ok : goal.returns-clause-ok
returns-clause-ok g c = λ bytes timer. ram_stores _ _ _ _ _ _ _ _ _ (search rules) (search rules)
