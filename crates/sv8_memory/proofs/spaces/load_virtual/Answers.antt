use Rattle.std.proofs.Common.{refl}
use Rattle.sv8_model.proofs.Common.{does_done}
use Rattle.sv8_phys.specs.Memory.{ram_size}
use Rattle.sv8_memory.specs.Feeding.{bytes_fed}
use Rattle.sv8_memory.specs.Access.{loaded_from}
use Rattle.sv8_memory.proofs.Accesses.{made_as, stand_on}
use Rattle.sv8_memory.proofs.spaces.load_virtual.Goals as goal

pub returns-in-Failed-clause-ok : goal.returns-in-Failed-clause-ok
returns-in-Failed-clause-ok g c =
    made_as _ _ _ _ c.args.asi _ _ _ (λ u. loaded_from (ram_size g.row.PAGES) u c.args.size c.args.asi c.args.at) _ _ _ _ _ _ _ c.load_type.ensures c.reach_of.ensures
    (c.in_ok-response.ensures.ok (bytes_fed c.args.feed) (λ u. loaded_from (ram_size g.row.PAGES) u c.args.size c.args.asi c.args.at) _ _ _ (rw c.in-Failed.is (does_done _ _ _ _ _ refl)))

pub returns-in_ok-response-in-At-clause-ok : goal.returns-in_ok-response-in-At-clause-ok
returns-in_ok-response-in-At-clause-ok g c =
    made_as _ _ _ _ c.args.asi _ _ _ (λ u. loaded_from (ram_size g.row.PAGES) u c.args.size c.args.asi c.args.at) _ _ _ _ _ _ _ c.load_type.ensures c.reach_of.ensures
    (c.in_ok-response.ensures.ok (bytes_fed c.args.feed) (λ u. loaded_from (ram_size g.row.PAGES) u c.args.size c.args.asi c.args.at) _ _ _ (rw c.in-At.is (c.in_ok-response-in-At.ensures.ok)))

pub returns-in_err-response-in-At-clause-serves : goal.returns-in_err-response-in-At-clause-serves
returns-in_err-response-in-At-clause-serves g c = stand_on _ _ _ _ _ _ c.load.ensures.kept c.load.ensures.pointer c.locate.ensures.serves

pub returns-in_ok-response-in-At-clause-serves : goal.returns-in_ok-response-in-At-clause-serves
returns-in_ok-response-in-At-clause-serves g c = stand_on _ _ _ _ _ _ c.load.ensures.kept c.load.ensures.pointer c.locate.ensures.serves
