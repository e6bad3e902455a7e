use Rattle.std.proofs.Common.{refl, ap, ◌∙◌, []}
use Rattle.sv8_memory.proofs.Accesses.{stand_on}
use Rattle.sv8_memory.proofs.Pages.{tick_spares}
use Rattle.sv8_memory.proofs.memory.Memory.tick.Goals as goal

pub invariant_of-self : goal.invariant_of-self
invariant_of-self g c = stand_on _ _ _ _ _ _ (ap (λ m. m.ram) c.in_err-tick_noted.ensures.err) refl c.self.invariant

pub invariant_of-self-2 : goal.invariant_of-self-2
invariant_of-self-2 g c = stand_on _ _ _ _ _ _ (ap (λ o. o.ram) (c.in_ok-tick_noted.ensures.ok []).outside ∙ (tick_spares c.self.inside.physical.phys.timer).ram _) refl c.self.invariant
