-- A small RAM with tables of each level, whose walks can be computed (numbers are hexadecimal where they begin with 0x).
use Rattle.std.specs.Prelude.{ℕ, ◌/◌, ◌%◌, ◌^◌, false, List, [], ◌∷◌, ◌++◌, replicate}
use Rattle.sv8_model.specs.declared.touch.Touch.{Touch}
use Rattle.sv8_model.specs.Outside.{Outside, word_of}
use Rattle.sv8_model.specs.Action.{Action, result_of, after, touches}
use Rattle.sv8_mmu.specs.declared.access_type.AccessType.TheVariants.{SupervisorFetch}
use Rattle.sv8_mmu.specs.declared.fault_type.FaultType.{FaultType}
use Rattle.sv8_mmu.specs.declared.registers.Mmu.{Mmu}
use Rattle.sv8_mmu.specs.declared.registers.Fault.{Fault}
use Rattle.sv8_mmu.specs.declared.table_level.TableLevel.{TableLevel}

-- the bytes of words, the most significant first
abbrev pub bytes_of : List ℕ → List ℕ
bytes_of [] = []
bytes_of (w ∷ ws) = w / 2 ^ 24 ∷ w / 2 ^ 16 % 2 ^ 8 ∷ w / 2 ^ 8 % 2 ^ 8 ∷ w % 2 ^ 8 ∷ bytes_of ws

-- Four tables of 16 entries are seen, each behind the one before, at 0x00, 0x40, 0x80 and 0xc0. A pointer to the second is 5, to the third 9, to the fourth
-- 0xd, and 0x11 leads behind RAM; 0 is invalid and 3 reserved. An entry of a page has R in 0x20, M in 0x40, and ACC in 0x1c.

-- the context table: a pointer, an invalid entry, a reserved one, a page for all accesses, a pointer behind RAM
abbrev pub contexts : List ℕ
contexts = 5 ∷ 0 ∷ 3 ∷ 0xe ∷ 0x11 ∷ replicate 11 0

-- level 1: the same, with a page in the upper 4 GiB
abbrev pub regions : List ℕ
regions = 9 ∷ 0 ∷ 3 ∷ 0x1257_890e ∷ 0x11 ∷ replicate 11 0

-- level 2: the same
abbrev pub segments : List ℕ
segments = 0xd ∷ 0 ∷ 3 ∷ 0x1257_890e ∷ 0x11 ∷ replicate 11 0

-- level 3: page 0 of RAM for all accesses, an invalid entry, a reserved one, a page in the upper 4 GiB, a pointer; page 0 with ACC 0 to 2 and 4 to 7;
-- the page of the devices; and page 0 with R, and with R and M
abbrev pub pages : List ℕ
pages = 0xe ∷ 0 ∷ 3 ∷ 0x1257_890e ∷ 0x5 ∷ 0x2 ∷ 0x6 ∷ 0xa ∷ 0x12 ∷ 0x16 ∷ 0x1a ∷ 0x1e ∷ 0x0800_000e ∷ 0x2e ∷ 0x6e ∷ 0 ∷ []

-- 256 bytes of RAM
abbrev pub tables : Outside
tables = record { ram = bytes_of (contexts ++ regions ++ segments ++ pages); waiting = []; output = []; pending = replicate 16 false }

-- translation is on, with the context table at 0
abbrev pub in_context : ℕ → Mmu
in_context context = record { control = 1; table_pointer = 0; context = context; fault_status = 0; fault_address = 0 }

-- what an action leads to, what it touches, and the word of a number that it leaves
abbrev pub gives : {R : Type 0} → Action R → R
gives a = result_of a tables

abbrev pub touched : {R : Type 0} → Action R → List Touch
touched a = touches a tables

abbrev pub leaves : {R : Type 0} → Action R → ℕ → ℕ
leaves a k = word_of (after a tables).ram k

-- a fault of a type at a level, of an access of type 3, a supervisor's fetch, to address 0x10
abbrev pub fetch_fault : FaultType → TableLevel → Fault
fetch_fault fault_type level = record { level = level; access_type = SupervisorFetch; fault_type = fault_type; address = 0x10 }
