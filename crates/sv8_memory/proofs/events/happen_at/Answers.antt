use Rattle.std.proofs.Common.{refl, ap}
use Rattle.sv8_memory.proofs.Accesses.{stand_on}
use Rattle.sv8_memory.proofs.events.happen_at.Goals as goal

pub returns-clause-stand : goal.returns-clause-stand
returns-clause-stand g c = λ table_pointer stand. stand_on _ _ _ table_pointer _ _ (ap (λ m. m.ram) c.request_levels.ensures) refl (c.poke_events.ensures.stand table_pointer stand)
