-- The types of faults (Appendix H).
use Rattle.std.specs.Prelude.{ℕ, ◌==◌, Bool, true, false, Option, Some, None, if◌then◌else◌}
use Rattle.sv8_mmu.specs.declared.fault_type.FaultType.{FaultType}
use Rattle.sv8_mmu.specs.declared.fault_type.FaultType.TheVariants.{InvalidAddress, Protection, Privilege, Translation, AccessBus}

-- the number by which the fault status tells it
abbrev pub fault_number : FaultType → ℕ
fault_number InvalidAddress = 1
fault_number Protection = 2
fault_number Privilege = 3
fault_number Translation = 4
fault_number AccessBus = 5

-- the fault that a number of the table of permissions stands for; 0 is none
abbrev pub refused_by : ℕ → Option FaultType
refused_by number = if number == 2 then Some Protection else (if number == 3 then Some Privilege else None)

-- a check found no fault
abbrev pub is_allowed : Option FaultType → Bool
is_allowed None = true
is_allowed (Some kind) = false
