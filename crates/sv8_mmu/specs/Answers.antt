-- A translation with its whole fault, and where translations may want memory.
use Rattle.std.specs.Prelude.{ℕ, ◌==◌, Bool, false, not, ◌&&◌, ◌||◌, Result, Ok, Err}
use Rattle.sv8_model.specs.Outside.{Outside}
use Rattle.sv8_model.specs.Action.{Action, done, ◌>>=◌, result_of}
use Rattle.sv8_mmu.specs.declared.access_type.AccessType.{AccessType}
use Rattle.sv8_mmu.specs.declared.fault_type.FaultType.{FaultType}
use Rattle.sv8_mmu.specs.declared.registers.Mmu.{Mmu}
use Rattle.sv8_mmu.specs.declared.registers.Fault.{Fault}
use Rattle.sv8_mmu.specs.declared.table_level.TableLevel.{TableLevel}
use Rattle.sv8_mmu.specs.declared.walk.Walked.{Walked}
use Rattle.sv8_mmu.specs.declared.walk.Walked.TheVariants as end
use Rattle.sv8_mmu.specs.declared.translation.Reach.{Reach}
use Rattle.sv8_mmu.specs.declared.translation.Translated.{Translated}
use Rattle.sv8_mmu.specs.declared.translation.Translated.TheVariants.{At, Refused}
use Rattle.sv8_mmu.specs.FaultTypes.{is_allowed}
use Rattle.sv8_mmu.specs.Registers.{translates}
use Rattle.sv8_mmu.specs.Walk.{walk}
use Rattle.sv8_mmu.specs.Translation.{fault_type, marked, physical_address, is_served, translate}

-- the fault of an access of a type to a virtual address, as the registers record it
abbrev pub fault_of : ℕ → AccessType → FaultType → TableLevel → Fault
fault_of va access_type kind level = record { level = level; access_type = access_type; fault_type = kind; address = va }

-- what a translation leads to, with its whole fault
abbrev pub answer_of : ℕ → AccessType → Translated → Result ℕ Fault
answer_of va access_type (At pa) = Ok pa
answer_of va access_type (Refused kind level) = Err (fault_of va access_type kind level)

-- a translation that leads to a physical address or to a fault
abbrev pub answered_translation : ℕ → Mmu → ℕ → AccessType → Reach → Action (Result ℕ Fault)
answered_translation limit r va access_type reach = translate limit r va access_type reach >>= λ t. done (answer_of va access_type t)

-- ---- growths

-- a walk ends in the entry of a page that an access changes: it is allowed, something serves it, and R or M was not set
abbrev pub changes_marks : ℕ → ℕ → AccessType → Reach → Walked → Bool
changes_marks limit va access_type reach (end.Fault kind level) = false
changes_marks limit va access_type reach (end.Page e level at) =
    is_allowed (fault_type access_type e) && (is_served limit reach (physical_address e level va) && not (marked access_type e == e))

-- a translation may want memory for its notes, and for the copy of a page of RAM that is shared, in which it marks an entry
abbrev pub translation_grows : Bool → ℕ → Mmu → ℕ → AccessType → Reach → Outside → Bool
translation_grows keeps limit r va access_type reach o =
    translates r && (keeps || changes_marks limit va access_type reach (result_of (walk limit r.table_pointer r.context va) o))
