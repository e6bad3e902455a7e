-- The registers of the memory management unit, and the record of a fault (Appendix H, the registers of the reference MMU).
use Rattle.std.specs.Prelude.{ℕ, ◌+◌, ◌*◌, ◌/◌, ◌%◌, ◌^◌, ◌==◌, Bool, not, ◌||◌, Option, Some, None, if◌then◌else◌}
use Rattle.sv8_model.specs.Words.{field, bit}
use Rattle.sv8_mmu.specs.declared.registers.Mmu.{Mmu}
use Rattle.sv8_mmu.specs.declared.registers.Fault.{Fault}
use Rattle.sv8_mmu.specs.AccessTypes.{number_of}
use Rattle.sv8_mmu.specs.FaultTypes.{fault_number}
use Rattle.sv8_mmu.specs.TableLevels.{level_number}

-- after reset: no translation, and nothing recorded
abbrev pub registers_at_reset : Mmu
registers_at_reset = record { control = 0; table_pointer = 0; context = 0; fault_status = 0; fault_address = 0 }

-- bit E of the control register: addresses are translated
abbrev pub translates : Mmu → Bool
translates r = bit r.control 0

-- bit NF of the control register: no fault
abbrev pub has_no_fault : Mmu → Bool
has_no_fault r = bit r.control 1

-- ---- by their addresses

abbrev pub control_address : ℕ
control_address = 0x000

abbrev pub table_pointer_address : ℕ
table_pointer_address = 0x100

abbrev pub context_address : ℕ
context_address = 0x200

abbrev pub fault_status_address : ℕ
fault_status_address = 0x300

abbrev pub fault_address_address : ℕ
fault_address_address = 0x400

-- the value of the register at an address, if there is one
unfoldable pub register_at : Mmu → ℕ → Option ℕ
register_at r at =
    if at == control_address then Some r.control else
    (if at == table_pointer_address then Some r.table_pointer else
    (if at == context_address then Some r.context else
    (if at == fault_status_address then Some r.fault_status else
    (if at == fault_address_address then Some r.fault_address else None))))

-- a read of the fault status clears it
unfoldable pub after_read : Mmu → ℕ → Mmu
after_read r at = if at == fault_status_address then record r { fault_status = 0 } else r

-- there is a register at the address
abbrev pub is_register : ℕ → Bool
is_register at = at == control_address || (at == table_pointer_address || (at == context_address || (at == fault_status_address || at == fault_address_address)))

-- control keeps E and NF, the table pointer bits 31:2, the context 8 bits; a write to the other two is ignored
unfoldable pub after_write : Mmu → ℕ → ℕ → Mmu
after_write r at word =
    if at == control_address then record r { control = word % 2 ^ 2 } else
    (if at == table_pointer_address then record r { table_pointer = word / 2 ^ 2 * 2 ^ 2 } else
    (if at == context_address then record r { context = word % 2 ^ 8 } else r))

-- ---- faults

-- a fault stands in the status: its type is not 0
abbrev pub has_fault : ℕ → Bool
has_fault status = not (field status 4 2 == 0)

-- the level of the table in 9:8, the access type in 7:5, the fault type in 4:2, FAV in 1, and OW in 0 where a fault stood there already
unfoldable pub status_of : ℕ → Fault → ℕ
status_of old f = level_number f.level * 2 ^ 8 + number_of f.access_type * 2 ^ 5 + fault_number f.fault_type * 2 ^ 2 + 2 + (if has_fault old then 1 else 0)

-- the fault status and the address at fault are recorded
unfoldable pub recorded : Mmu → Fault → Mmu
recorded r f = record r { fault_status = status_of r.fault_status f; fault_address = f.address }
