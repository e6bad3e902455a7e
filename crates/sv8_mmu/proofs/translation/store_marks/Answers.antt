use Rattle.std.proofs.Common.{◌≤◌, [], sym, subst, arith}
use Rattle.sv8_mmu.specs.Kept.{AllStand}
use Rattle.sv8_mmu.proofs.Storing.{entry_stored, ram_stored}
use Rattle.sv8_mmu.proofs.Marks.{stand_corrected}
use Rattle.sv8_mmu.proofs.translation.store_marks.Goals as goal

pub returns-in_err-store_table_word-clause-stand : goal.returns-in_err-store_table_word-clause-stand
returns-in_err-store_table_word-clause-stand g c = λ table_pointer walk stand.
    subst (λ m. AllStand g.R.TableMemory.SIZE (g.R.TableMemory.ram m) table_pointer c.args.buffer.now) (sym c.in_err-store_table_word.ensures.err) stand

pub returns-clause-ok : goal.returns-clause-ok
returns-clause-ok g c = λ answer bytes. entry_stored _ _ _ _ _ c.args.at c.args.entry _ (c.in_ok-store_table_word.ensures.ok bytes) answer

pub returns-clause-stand : goal.returns-clause-stand
returns-clause-stand g c = λ table_pointer walk stand.
    stand_corrected g.R.TableMemory.SIZE (g.R.TableMemory.ram c.args.phys.now) (g.R.TableMemory.ram c.store_table_word.new.self) table_pointer c.args.key c.args.trail c.args.old c.args.level c.args.at c.args.entry c.args.buffer.now c.forget_entry.new.self c.keep.new.self
    (subst (λ n. g.R.TableMemory.SIZE ≤ n) (sym c.size-size.ensures.whole) (omega arith)) c.requires.kind c.ranges.entry.fits
    (ram_stored _ _ _ _ _ c.args.at c.args.entry _ (c.in_ok-store_table_word.ensures.ok [])) walk stand c.forget_entry.ensures.among c.forget_entry.ensures.none c.keep.ensures
