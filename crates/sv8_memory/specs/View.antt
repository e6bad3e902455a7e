-- What physical memory with the registers of the memory management unit stands for, and what it means that it did an access.
use Rattle.std.specs.Prelude.{◌≡◌, ℕ, List}
use Rattle.sv8_model.specs.Action.{Action}
use Rattle.sv8_model.specs.Does.{Does, Noting}
use Rattle.sv8_phys.specs.declared.timer.Timer.{Timer}
use Rattle.sv8_phys.specs.Memory.{ram_size}
use Rattle.sv8_phys.specs.Contents.{outside_of}
use Rattle.sv8_mmu.specs.declared.registers.Mmu.{Mmu}
use Rattle.sv8_mmu.specs.Kept.{Kept, AllStand}
use Rattle.sv8_trap.specs.declared.request.Response.{Response}
use Rattle.sv8_trap.specs.declared.request.Response.TheVariants.{Value}
use Rattle.sv8_memory.specs.declared.physical.Physical.{Physical}
use Rattle.sv8_memory.specs.Units.{Units, Served}

-- the units of a memory
abbrev pub units_of : {pages : ℕ} → Physical pages → Units
units_of m = record { mmu = m.mmu; timer = m.phys.timer }

-- the same with another timer
abbrev pub timed_units : {pages : ℕ} → Physical pages → Timer → Units
timed_units m timer = record { mmu = m.mmu; timer = timer }

-- what the lookaside buffer keeps stands in that memory
abbrev pub Serves : {pages : ℕ} → Physical pages → List Kept → Type 0
Serves {pages} m ks = AllStand (ram_size pages) m.phys.ram m.mmu.table_pointer ks

-- once some bytes have come in, a memory m became m' and gave the response r as the action does, and what it touches and what is seen of it was noted behind the notes ns
abbrev pub MemoryDoes : {pages : ℕ} → (way : Noting) → List ℕ → Action Served → Physical pages → Physical pages → Response → way.Taken → way.Taken → Type 0
MemoryDoes way bytes a m m' r ns ns' = Does way a (outside_of m.phys bytes) (outside_of m'.phys bytes) (record { response = r; units = units_of m' }) ns ns'

-- a store is answered, and leaves the registers of the memory management unit as they are
abbrev pub IsTaken : Mmu → Served → Type 0
IsTaken mmu s = (s.response ≡ Value 0) × (s.units.mmu ≡ mmu)
