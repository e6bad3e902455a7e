use Rattle.std.proofs.Common.{◌≡◌, ◌/◌, [], refl, sym, subst}
use Rattle.sv8_phys.specs.Memory.{ram_size}
use Rattle.sv8_mmu.specs.Kept.{AllStand, DiffersInPage}
use Rattle.sv8_mmu.proofs.Storing.{ram_stored}
use Rattle.sv8_mmu.proofs.Walks.{stored_in_page}
use Rattle.sv8_part_tests.proofs.translation.remap.Goals as goal

pub returns-in_err-store_table_word : goal.returns-in_err-store_table_word
returns-in_err-store_table_word c = subst (λ m. AllStand (ram_size 2) m.ram 0x10 c.args.buffer.now) (sym c.in_err-store_table_word.ensures.err) c.requires

pub returns : goal.returns
returns c =
    c.forget_page.ensures.stand (ram_size 2) c.args.memory.now.ram c.store_table_word.new.self.ram 0x10
    (subst (DiffersInPage 0 c.args.memory.now.ram) (sym (ram_stored _ _ _ _ _ 0x90c 0x2e _ (c.in_ok-store_table_word.ensures.ok []))) (stored_in_page c.args.memory.now.ram (0x90c / 4) 0x2e 0 refl))
    c.requires
