use Rattle.sv8_phys.specs.Memory.{ram_size}
use Rattle.sv8_memory.specs.Access.{access, stored_at}
use Rattle.sv8_memory.proofs.Accesses.{made_untranslated}
use Rattle.sv8_memory.proofs.stores.store_untranslated.Goals as goal

pub returns-clause-ok : goal.returns-clause-ok
unfolding access
returns-clause-ok g c = λ bytes.
    rw c.requires.space
    (made_untranslated _ _ _ _ _ _ _ _ (λ u. stored_at (ram_size g.row.PAGES) u c.args.size c.args.asi c.args.value c.args.at) _ _ _ _ _ c.requires.untranslated (c.in_ok-response.ensures.ok bytes))
