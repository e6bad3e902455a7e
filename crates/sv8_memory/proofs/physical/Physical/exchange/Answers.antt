use Rattle.std.proofs.Common.{refl, sym, [], rules}
use Rattle.sv8_memory.proofs.Accesses.{exchanged_word}
use Rattle.sv8_memory.proofs.Pages.{ram_stored_in_page}
use Rattle.sv8_memory.proofs.physical.Physical.exchange.Goals as goal

pub returns-clause-ok : goal.returns-clause-ok
returns-clause-ok g c = λ bytes.
    exchanged_word _ _ _ _ _ _ _ _ _ _ _ _ _ _ _ _ _ _ _ (sym c.if-not-is_ram.ensures) (search rules) (c.in_ok-old.ensures.ok bytes)
    (c.in_ok-write_ram.ensures.ok bytes c.args.self.now.phys.timer) (rw c.in_ok-write_ram.ensures.others refl)

pub returns-clause-page : goal.returns-clause-page
returns-clause-page g c = ram_stored_in_page _ c.args.size c.args.pa _ _ _ _ _ _ _ c.requires (c.in_ok-write_ram.ensures.ok [] c.args.self.now.phys.timer)
