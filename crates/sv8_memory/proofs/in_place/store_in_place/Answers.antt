use Rattle.std.proofs.Common.{refl}
use Rattle.sv8_phys.specs.Memory.{ram_size}
use Rattle.sv8_memory.specs.Access.{stored_at}
use Rattle.sv8_memory.proofs.Accesses.{made_at}
use Rattle.sv8_memory.proofs.in_place.store_in_place.Goals as goal

pub returns-in_ok-response-in-Some-clause-found : goal.returns-in_ok-response-in-Some-clause-found
returns-in_ok-response-in-Some-clause-found g c = λ bytes.
    let found = rw c.in-Some.is at c.in_ok-pa.ensures.found in
    let does = rw (c.store_type.ensures, c.reach_of.ensures) at (found bytes) in
    made_at _ _ _ _ _ _ _ _ (λ u. stored_at (ram_size g.row.PAGES) u c.args.size c.args.asi c.args.value c.args.at) _ _ _ _ _ _ _ _ _ refl does _ refl (c.in_ok-response-in-Some.ensures.ok bytes)
