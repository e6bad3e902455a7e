use Rattle.std.proofs.Common.{◌∙◌, refl, sym}
use Rattle.sv8_mmu.proofs.Translating.{walked_plainly}
use Rattle.sv8_mmu.proofs.translation.find_shortcut.Goals as goal

pub returns-then-is_ram-clause-does : goal.returns-then-is_ram-clause-does
returns-then-is_ram-clause-does g c =
    walked_plainly _ (g.R.TableMemory.ram c.args.phys.now) c.args.registers.now c.args.access.address _ _ c.in_ok-base.walk.now _ c.requires.on (c.requires.stand _ c.in_ok-base.ensures.walk)
    (c.in_ok-base.ensures.base.settles _ _ _ refl (sym c.is_ram.ensures ∙ c.if-is_ram.true))
