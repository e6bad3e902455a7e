use Rattle.std.proofs.Common.{rules}
use Rattle.sv8_phys.proofs.Access.{load_in_ram}
use Rattle.sv8_phys.proofs.phys.Phys.read_noted.Goals as goal

pub returns-in_ok-value-clause-ok : goal.returns-in_ok-value-clause-ok
returns-in_ok-value-clause-ok g c = λ bytes. load_in_ram _ _ _ _ _ _ _ _ _ (search rules) (search rules)
