use Rattle.sv8_phys.specs.Memory.{ram_size}
use Rattle.sv8_memory.specs.Access.{access, loaded_from}
use Rattle.sv8_memory.proofs.Accesses.{made_untranslated, stand_on}
use Rattle.sv8_memory.proofs.spaces.load_untranslated.Goals as goal

pub returns-clause-ok : goal.returns-clause-ok
unfolding access
returns-clause-ok g c =
    rw c.requires.space
    (made_untranslated _ _ _ _ _ _ _ _ (λ u. loaded_from (ram_size g.row.PAGES) u c.args.size c.args.asi c.args.at) _ _ _ _ _ c.requires.untranslated c.in_ok-response.ensures.ok)

pub returns-in_err-response-clause-serves : goal.returns-in_err-response-clause-serves
returns-in_err-response-clause-serves g c = stand_on _ _ _ _ _ _ c.load.ensures.kept c.load.ensures.pointer c.requires.serves

pub returns-clause-serves : goal.returns-clause-serves
returns-clause-serves g c = stand_on _ _ _ _ _ _ c.load.ensures.kept c.load.ensures.pointer c.requires.serves
