use Rattle.std.proofs.Common.{refl}
use Rattle.sv8_phys.specs.Memory.{ram_size}
use Rattle.sv8_memory.specs.Access.{access, instruction_space, fetched_from}
use Rattle.sv8_memory.proofs.Accesses.{made_at}
use Rattle.sv8_memory.proofs.in_place.fetch_translated.Goals as goal

pub returns-in_ok-word-in-Some : goal.returns-in_ok-word-in-Some
unfolding access
returns-in_ok-word-in-Some g c = λ bytes.
    let asi = instruction_space c.args.supervisor in
    let found = rw c.in-Some.is at c.in_ok-pa.ensures.found in
    let does = rw (c.load_type.ensures, c.instruction_space.ensures) at (found bytes) in
    made_at _ _ _ _ _ _ _ _ (λ u. fetched_from (ram_size g.row.PAGES) u asi c.args.at) _ _ _ _ _ _ _ _ _ refl does _ refl (c.in_ok-word-in-Some.ensures asi c.args.at bytes)
