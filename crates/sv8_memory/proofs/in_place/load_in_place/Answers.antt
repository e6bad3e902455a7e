use Rattle.std.proofs.Common.{refl}
use Rattle.sv8_phys.specs.Memory.{ram_size}
use Rattle.sv8_memory.specs.Access.{loaded_from}
use Rattle.sv8_memory.proofs.Accesses.{made_at}
use Rattle.sv8_memory.proofs.in_place.load_in_place.Goals as goal

pub returns-in_ok-response-in-Some : goal.returns-in_ok-response-in-Some
returns-in_ok-response-in-Some g c = λ bytes.
    let found = rw c.in-Some.is at c.in_ok-pa.ensures.found in
    let does = rw (c.load_type.ensures, c.reach_of.ensures) at (found bytes) in
    made_at _ _ _ _ _ _ _ _ (λ u. loaded_from (ram_size g.row.PAGES) u c.args.size c.args.asi c.args.at) _ _ _ _ _ _ _ _ _ refl does _ refl (c.in_ok-response-in-Some.ensures.ok c.args.asi bytes)
