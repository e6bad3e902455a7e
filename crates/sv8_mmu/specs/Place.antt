-- Where a virtual address lies: the walk of translation, with no access, so with no check and no marks (Appendix H).
use Rattle.std.specs.Prelude.{ℕ, List, [], Option, Some, None, if◌then◌else◌}
use Rattle.sv8_model.specs.Outside.{Outside}
use Rattle.sv8_model.specs.Action.{result_of}
use Rattle.sv8_mmu.specs.declared.place.Place.{Place}
use Rattle.sv8_mmu.specs.declared.registers.Mmu.{Mmu}
use Rattle.sv8_mmu.specs.declared.table_level.TableLevel.{TableLevel}
use Rattle.sv8_mmu.specs.declared.walk.Walked.{Walked}
use Rattle.sv8_mmu.specs.declared.walk.Walked.TheVariants.{Page, Fault}
use Rattle.sv8_mmu.specs.Registers.{translates}
use Rattle.sv8_mmu.specs.Translation.{permission, physical_address}
use Rattle.sv8_mmu.specs.Walk.{walk}

-- RAM, and nothing else outside: a walk loads words alone
abbrev pub only_ram : List ℕ → Outside
only_ram ram = record { ram = ram; waiting = []; output = []; pending = [] }

-- with E = 0 the physical address is the virtual one
abbrev pub untranslated : ℕ → Place
untranslated va = record { pa = va; page = None }

-- an address that an entry of a level maps
abbrev pub mapped : ℕ → TableLevel → ℕ → Place
mapped e level va = record { pa = physical_address e level va; page = Some (record { level = level; access = permission e }) }

-- what the end of a walk says of an address: where the walk meets a fault, the address lies nowhere
abbrev pub placed : ℕ → Walked → Option Place
placed va (Page e level at) = Some (mapped e level va)
placed va (Fault kind level) = None

-- where an address lies by the registers and the tables in RAM of a size, as they stand
unfoldable pub place_of : ℕ → Mmu → List ℕ → ℕ → Option Place
place_of limit r ram va =
    if translates r then placed va (result_of (walk limit r.table_pointer r.context va) (only_ram ram)) else Some (untranslated va)
