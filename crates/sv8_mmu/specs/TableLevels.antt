-- The levels of the tables (Appendix H).
use Rattle.std.specs.Prelude.{ℕ, ◌^◌}
use Rattle.sv8_mmu.specs.declared.table_level.TableLevel.{TableLevel}
use Rattle.sv8_mmu.specs.declared.table_level.TableLevel.TheVariants.{Context, Level1, Level2, Level3}

-- the number by which the fault status tells it
abbrev pub level_number : TableLevel → ℕ
level_number Context = 0
level_number Level1 = 1
level_number Level2 = 2
level_number Level3 = 3

-- the size of what the entry of a page maps there: 4 GiB, 16 MiB, 256 KiB, 4 KiB
abbrev pub page_size : TableLevel → ℕ
page_size Context = 2 ^ 32
page_size Level1 = 2 ^ 24
page_size Level2 = 2 ^ 18
page_size Level3 = 2 ^ 12
