-- What it means that code has located the address of a virtual access.
use Rattle.std.specs.Prelude.{◌≡◌, ℕ, ◌%◌, ◌^◌, ◌<◌, List}
use Rattle.sv8_model.specs.Outside.{Outside}
use Rattle.sv8_model.specs.Action.{Action, done}
use Rattle.sv8_model.specs.Does.{Does, Noting}
use Rattle.sv8_phys.specs.Contents.{outside_of}
use Rattle.sv8_mmu.specs.declared.translation.VirtualAccess.{VirtualAccess}
use Rattle.sv8_trap.specs.declared.table.Trap.{Trap}
use Rattle.sv8_memory.specs.declared.physical.Physical.{Physical}
use Rattle.sv8_memory.specs.declared.locating.Place.{Place}
use Rattle.sv8_memory.specs.declared.locating.Place.TheVariants as place
use Rattle.sv8_memory.specs.Units.{Units, Served}
use Rattle.sv8_memory.specs.Access.{at_virtual}
use Rattle.sv8_memory.specs.View.{units_of}

-- what is left to do: the access at the physical address, or nothing
abbrev pub left_to_do : Units → (Units → ℕ → Action Served) → Place → Action Served
left_to_do u use_address (place.At pa) = use_address u pa
left_to_do u use_address (place.Failed response) = done (record { response = response; units = u })

-- a physical address has 36 bits, and keeps its place in its page of 4,096 bytes
abbrev pub IsPlace : ℕ → Place → Type 0
IsPlace va (place.At pa) = (pa % 4096 ≡ va % 4096) × (pa < 2 ^ 36)
IsPlace va (place.Failed response) = Unit {0}

-- a memory m became m': whatever is to be done at the physical address, who does what is left to do has done the whole access
abbrev pub Locates : {pages : ℕ} → (way : Noting) → List ℕ → ℕ → Trap → ℕ → VirtualAccess → Physical pages → Physical pages → Place → way.Taken → way.Taken → Type 0
Locates way bytes limit trap asi access m m' place ns ns' =
    (use_address : Units → ℕ → Action Served) (o : Outside) (s : Served) (ns'' : way.Taken) → Does way (left_to_do (units_of m') use_address place) (outside_of m'.phys bytes) o s ns' ns''
    → Does way (at_virtual limit (units_of m) trap asi access.access_type access.reach access.address (use_address (units_of m))) (outside_of m.phys bytes) o s ns ns''
