use Rattle.sv8_phys.proofs.Tables.{word_stored}
use Rattle.sv8_phys.proofs.phys.tables.PhysTableMemory.store_table_word.Goals as goal

pub returns-clause-ok : goal.returns-clause-ok
returns-clause-ok g c = λ bytes. word_stored _ _ _ _ _ c.args.at c.args.value _ _ c.ranges.value.fits (c.in_ok-write_ram.ensures.ok bytes c.args.self.now.timer)
