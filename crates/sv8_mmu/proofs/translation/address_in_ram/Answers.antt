use Rattle.std.proofs.Common.{refl}
use Rattle.sv8_mmu.proofs.Noting.{noted_behind}
use Rattle.sv8_mmu.proofs.translation.address_in_ram.Goals as goal

pub returns-then-translates-clause-does : goal.returns-then-translates-clause-does
returns-then-translates-clause-does g c = λ bytes. noted_behind _ _ _ _ _ _ _ (c.in_ok-pa.ensures.does (g.R.TableMemory.outside bytes c.args.phys.now)) refl
