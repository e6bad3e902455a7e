use Rattle.sv8_phys.specs.Memory.{ram_size}
use Rattle.sv8_memory.specs.Access.{access, instruction_space, fetched_from}
use Rattle.sv8_memory.proofs.Accesses.{made_untranslated}
use Rattle.sv8_memory.proofs.in_place.fetch_untranslated.Goals as goal

pub returns-clause-found : goal.returns-clause-found
unfolding access
returns-clause-found g c = λ bytes.
    let asi = instruction_space c.args.supervisor in
    let fetched = rw c.from-pa.ensures at (c.in_ok-word.ensures asi c.args.at bytes) in
    made_untranslated _ _ _ _ _ _ _ _ (λ u. fetched_from (ram_size g.row.PAGES) u asi c.args.at) _ _ _ _ _ c.requires.untranslated fetched
