use Rattle.std.proofs.Common.{refl}
use Rattle.sv8_model.proofs.Common.{does_done}
use Rattle.sv8_phys.specs.Memory.{ram_size}
use Rattle.sv8_memory.specs.Access.{exchanged_at}
use Rattle.sv8_memory.proofs.Accesses.{made_as}
use Rattle.sv8_memory.proofs.stores.exchange_virtual.Goals as goal

pub returns-in-Failed-clause-ok : goal.returns-in-Failed-clause-ok
returns-in-Failed-clause-ok g c = λ bytes.
    made_as _ _ _ _ c.args.asi _ _ _ (λ u. exchanged_at (ram_size g.row.PAGES) u c.args.size c.args.asi c.args.value c.args.at) _ _ _ _ _ _ _ c.store_type.ensures refl
    (c.in_ok-response.ensures.ok bytes (λ u. exchanged_at (ram_size g.row.PAGES) u c.args.size c.args.asi c.args.value c.args.at) _ _ _ (rw c.in-Failed.is (does_done _ _ _ _ _ refl)))

pub returns-in_ok-response-in-At-clause-ok : goal.returns-in_ok-response-in-At-clause-ok
returns-in_ok-response-in-At-clause-ok g c = λ bytes.
    made_as _ _ _ _ c.args.asi _ _ _ (λ u. exchanged_at (ram_size g.row.PAGES) u c.args.size c.args.asi c.args.value c.args.at) _ _ _ _ _ _ _ c.store_type.ensures refl
    (c.in_ok-response.ensures.ok bytes (λ u. exchanged_at (ram_size g.row.PAGES) u c.args.size c.args.asi c.args.value c.args.at) _ _ _ (rw c.in-At.is (c.in_ok-response-in-At.ensures.ok bytes)))
