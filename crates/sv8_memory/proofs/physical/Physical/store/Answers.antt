use Rattle.std.proofs.Common.{refl, sym, subst, ◌/◌, [], rules}
use Rattle.sv8_mmu.specs.Kept.{DiffersInPage}
use Rattle.sv8_memory.proofs.Accesses.{plain_store}
use Rattle.sv8_memory.proofs.Pages.{stored_in_page}
use Rattle.sv8_memory.proofs.physical.Physical.store.Goals as goal

pub returns-clause-ok : goal.returns-clause-ok
returns-clause-ok g c = λ bytes. plain_store _ _ _ _ _ _ _ _ _ _ _ _ _ _ _ _ (rw (c.store_answer.ensures.memory) refl) (c.in_ok-answer.ensures.ok bytes) (search rules) c.store_answer.ensures.served

pub returns-clause-page : goal.returns-clause-page
returns-clause-page g c =
    subst (λ m. DiffersInPage (c.args.pa / 4096) c.args.self.now.phys.ram m.ram) (sym c.store_answer.ensures.memory) (stored_in_page _ _ _ _ c.args.pa _ _ _ _ _ _ c.requires (c.in_ok-answer.ensures.ok []))

pub returns-in_err-show-clause-page : goal.returns-in_err-show-clause-page
returns-in_err-show-clause-page g c = stored_in_page _ _ _ _ c.args.pa _ _ _ _ _ _ c.requires (c.in_ok-answer.ensures.ok [])
