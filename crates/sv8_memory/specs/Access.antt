-- One access to memory, as an action: by the address space, the translation of the address and then RAM, the console, another device, or a fault; the
-- registers of the memory management unit; or a probe of its tables (Appendix H, Appendix I for the address spaces).
use Rattle.std.specs.Prelude.{ℕ, List, [], ◌∷◌, ◌+◌, ◌*◌, ◌%◌, ◌^◌, ◌==◌, ◌&&◌, Bool, true, false, nat_lt, Result, Ok, Err, Option, Some, None, if◌then◌else◌}
use Rattle.sv8_model.specs.declared.observation.AccessKind.{AccessKind}
use Rattle.sv8_model.specs.declared.observation.AccessKind.TheVariants as kind
use Rattle.sv8_model.specs.declared.observation.Observation.{Observation}
use Rattle.sv8_model.specs.declared.observation.Observation.TheVariants as seen
use Rattle.sv8_model.specs.Action.{Action, done, take_input, count_waiting, observe, ◌>>=◌}
use Rattle.sv8_phys.specs.declared.fault.BusError.{BusError}
use Rattle.sv8_model.specs.declared.size.Size.{Size}
use Rattle.sv8_model.specs.declared.size.Size.TheVariants.{Byte, Half, Word, Double}
use Rattle.sv8_model.specs.Size.{bytes_in}
use Rattle.sv8_model.specs.Devices.{input_address, waiting_address}
use Rattle.sv8_phys.specs.Devices.{Stored, load, store, ram_load, ram_store}
use Rattle.sv8_mmu.specs.declared.access_type.AccessType.{AccessType}
use Rattle.sv8_mmu.specs.declared.access_type.AccessType.TheVariants.{UserLoad, SupervisorLoad, UserFetch, SupervisorFetch, UserStore, SupervisorStore, UserInstructionStore, SupervisorInstructionStore}
use Rattle.sv8_mmu.specs.declared.fault_type.FaultType.TheVariants.{AccessBus}
use Rattle.sv8_mmu.specs.declared.registers.Fault.{Fault}
use Rattle.sv8_mmu.specs.declared.table_level.TableLevel.TheVariants.{Context}
use Rattle.sv8_mmu.specs.declared.translation.Reach.{Reach}
use Rattle.sv8_mmu.specs.declared.translation.Reach.TheVariants.{Ram, RamOrDevices}
use Rattle.sv8_mmu.specs.declared.translation.Translated.{Translated}
use Rattle.sv8_mmu.specs.declared.translation.Translated.TheVariants as translated
use Rattle.sv8_mmu.specs.Registers.{register_at, after_read, is_register, after_write}
use Rattle.sv8_mmu.specs.Translation.{translate}
use Rattle.sv8_mmu.specs.Probe.{probe}
use Rattle.sv8_trap.specs.declared.table.Trap.{Trap}
use Rattle.sv8_trap.specs.declared.table.Trap.TheVariants.{InstructionAccessException, DataAccessException}
use Rattle.sv8_memory.specs.Units.{Units, Served, served, failed}
use Rattle.sv8_trap.specs.declared.request.AccessRequest.{AccessRequest}
use Rattle.sv8_trap.specs.declared.request.AccessRequest.TheVariants as request
use Rattle.sv8_trap.specs.declared.request.Response.TheVariants.{Refused}
use Rattle.sv8_trap.specs.declared.request.Space.{Space}
use Rattle.sv8_trap.specs.declared.request.Space.TheVariants as space
use Rattle.sv8_model.specs.Words.{low_word}
use Rattle.sv8_trap.specs.Requests.{space_of}

-- ---- address spaces

-- the space that instructions are fetched from
abbrev pub instruction_space : Bool → ℕ
instruction_space supervisor = if supervisor then 0x09 else 0x08

-- the physical address in one of the spaces 20 to 2F
abbrev pub physical_place : ℕ → ℕ → ℕ
physical_place high at = high * 2 ^ 32 + at

-- ---- access types and faults

-- of loads, by the address space: user data, supervisor data, user instructions, supervisor instructions
unfoldable pub load_type : ℕ → AccessType
load_type asi = if asi == 0x08 then UserFetch else (if asi == 0x09 then SupervisorFetch else (if asi == 0x0a then UserLoad else SupervisorLoad))

-- of stores, and of what loads and stores
unfoldable pub store_type : ℕ → AccessType
store_type asi =
    if asi == 0x08 then UserInstructionStore else (if asi == 0x09 then SupervisorInstructionStore else (if asi == 0x0a then UserStore else SupervisorStore))

-- nothing serves the physical address, a fault that has no level: its number is 0
abbrev pub bus_fault : AccessType → ℕ → Fault
bus_fault access_type va = record { level = Context; access_type = access_type; fault_type = AccessBus; address = va }

-- a space that is not assigned, or an access or a register that it does not have, is no fault of the unit: nothing is recorded, and NF hides nothing
abbrev pub no_such_access : Units → Served
no_such_access u = record { response = Refused DataAccessException; units = u }

-- ---- what an observer sees

-- an access to memory or to a device
abbrev pub access_seen : AccessKind → Size → ℕ → ℕ → Observation
access_seen kind size va pa = seen.Access kind (bytes_in size) va pa

-- of an access that is answered it is seen, of one that nothing serves nothing is
abbrev pub seen_if : {A E : Type 0} → Result A E → Observation → List Observation
seen_if (Ok value) s = s ∷ []
seen_if (Err e) s = []

abbrev pub observed : {A E R : Type 0} → Result A E → Observation → Action R → Action R
observed (Ok value) s a = observe s a
observed (Err e) s a = a

-- ---- accesses at a physical address; va is the virtual one

-- instructions are fetched from RAM alone
unfoldable pub fetched_from : ℕ → Units → ℕ → ℕ → ℕ → Action Served
fetched_from limit u asi va pa =
    if nat_lt pa limit then (ram_load Word pa >>= λ word. observe (seen.Fetch pa (low_word word)) (done (served u word)))
    else done (failed u InstructionAccessException asi (bus_fault (load_type asi) va))

abbrev pub load_answer : Units → ℕ → ℕ → Result ℕ BusError → Served
load_answer u asi va (Ok value) = served u value
load_answer u asi va (Err e) = failed u DataAccessException asi (bus_fault (load_type asi) va)

abbrev pub is_word : Size → Bool
is_word Word = true
is_word size = false

-- a load of a word at the console's input
abbrev pub takes_byte : Size → ℕ → Bool
takes_byte size pa = is_word size && pa == input_address

-- a load of a word at the count of the bytes that wait
abbrev pub counts_bytes : Size → ℕ → Bool
counts_bytes size pa = is_word size && pa == waiting_address

-- RAM or a device but the console's input serves it
unfoldable pub plainly_loaded : ℕ → Units → Size → ℕ → ℕ → ℕ → Action Served
plainly_loaded limit u size asi va pa =
    load limit u.timer size pa >>= λ answer. observed answer (access_seen kind.Load size va pa) (done (load_answer u asi va answer))

-- a load of a word takes a byte of the console's input, or counts the bytes that wait; else it is a plain one
unfoldable pub loaded_from : ℕ → Units → Size → ℕ → ℕ → ℕ → Action Served
loaded_from limit u size asi va pa =
    if takes_byte size pa then (take_input (λ byte. done byte) >>= λ byte. observe (access_seen kind.Load size va pa) (done (served u byte))) else
    (if counts_bytes size pa then (count_waiting (λ count. done count) >>= λ count. observe (access_seen kind.Load size va pa) (done (served u count))) else
    plainly_loaded limit u size asi va pa)

abbrev pub answer_to_store : Units → ℕ → ℕ → Result (Unit {0}) BusError → Served
answer_to_store u asi va (Ok nothing) = served u 0
answer_to_store u asi va (Err e) = failed u DataAccessException asi (bus_fault (store_type asi) va)

abbrev pub store_answer : Units → ℕ → ℕ → Stored → Served
store_answer u asi va s = answer_to_store (record u { timer = s.timer }) asi va s.answer

unfoldable pub stored_at : ℕ → Units → Size → ℕ → ℕ → ℕ → ℕ → Action Served
stored_at limit u size asi value va pa =
    store limit u.timer size pa value >>= λ s. observed s.answer (access_seen kind.Store size va pa) (done (store_answer u asi va s))

-- LDSTUB and SWAP load what stands in RAM and store another value, in one access
unfoldable pub exchanged_at : ℕ → Units → Size → ℕ → ℕ → ℕ → ℕ → Action Served
exchanged_at limit u size asi value va pa =
    if nat_lt pa limit then observe (access_seen kind.Exchange size va pa) (ram_load size pa >>= λ old. ram_store size pa value (served u old))
    else done (failed u DataAccessException asi (bus_fault (store_type asi) va))

-- ---- accesses at a virtual address

-- a fault of the translation fails the access; else it is made at the physical address
abbrev pub located : Units → Trap → ℕ → AccessType → ℕ → (ℕ → Action Served) → Translated → Action Served
located u trap asi access_type va use_address (translated.At pa) = use_address pa
located u trap asi access_type va use_address (translated.Refused kind level) =
    done (failed u trap asi (record { level = level; access_type = access_type; fault_type = kind; address = va }))

unfoldable pub at_virtual : ℕ → Units → Trap → ℕ → AccessType → Reach → ℕ → (ℕ → Action Served) → Action Served
at_virtual limit u trap asi access_type reach va use_address = translate limit u.mmu va access_type reach >>= located u trap asi access_type va use_address

-- devices serve loads and stores of words
abbrev pub reach_of : Size → Reach
reach_of Byte = Ram
reach_of Half = Ram
reach_of Word = RamOrDevices
reach_of Double = Ram

-- ---- the registers of the unit

abbrev pub answer_of_register : Units → ℕ → Option ℕ → Served
answer_of_register u at None = no_such_access u
answer_of_register u at (Some word) = served (record u { mmu = after_read u.mmu at }) word

abbrev pub register_loaded : Units → ℕ → Served
register_loaded u at = answer_of_register u at (register_at u.mmu at)

abbrev pub register_stored : Units → ℕ → ℕ → Served
register_stored u at word = if is_register at then served (record u { mmu = after_write u.mmu at word }) 0 else no_such_access u

-- ---- loads, stores and exchanges, by the space

-- a load of a word from the probing space is a probe
abbrev pub probed : ℕ → Units → Size → ℕ → Action Served
probed limit u size at = if is_word size then (probe limit u.mmu at >>= λ entry. done (served u entry)) else done (no_such_access u)

abbrev pub loaded_in : ℕ → Units → Size → ℕ → ℕ → Space → Action Served
loaded_in limit u size asi at space.Virtual = at_virtual limit u DataAccessException asi (load_type asi) (reach_of size) at (loaded_from limit u size asi at)
loaded_in limit u size asi at (space.Physical high) = loaded_from limit u size asi at (physical_place high at)
loaded_in limit u size asi at space.Probing = probed limit u size at
loaded_in limit u size asi at space.Registers = done (if is_word size then register_loaded u at else no_such_access u)
loaded_in limit u size asi at space.Unassigned = done (no_such_access u)

-- a store of a word to the probing space empties the buffer of the unit, which shows nowhere
abbrev pub stored_in : ℕ → Units → Size → ℕ → ℕ → ℕ → Space → Action Served
stored_in limit u size asi at value space.Virtual = at_virtual limit u DataAccessException asi (store_type asi) (reach_of size) at (stored_at limit u size asi value at)
stored_in limit u size asi at value (space.Physical high) = stored_at limit u size asi value at (physical_place high at)
stored_in limit u size asi at value space.Probing = done (if is_word size then served u 0 else no_such_access u)
stored_in limit u size asi at value space.Registers = done (if is_word size then register_stored u at (value % 2 ^ 32) else no_such_access u)
stored_in limit u size asi at value space.Unassigned = done (no_such_access u)

abbrev pub exchanged_in : ℕ → Units → Size → ℕ → ℕ → ℕ → Space → Action Served
exchanged_in limit u size asi at value space.Virtual = at_virtual limit u DataAccessException asi (store_type asi) Ram at (exchanged_at limit u size asi value at)
exchanged_in limit u size asi at value (space.Physical high) = exchanged_at limit u size asi value at (physical_place high at)
exchanged_in limit u size asi at value space.Probing = done (no_such_access u)
exchanged_in limit u size asi at value space.Registers = done (no_such_access u)
exchanged_in limit u size asi at value space.Unassigned = done (no_such_access u)

-- ---- an access

-- a fetch of an instruction, by address space 8 or 9
abbrev pub fetched_in : ℕ → Units → ℕ → ℕ → Action Served
fetched_in limit u asi at = at_virtual limit u InstructionAccessException asi (load_type asi) Ram at (fetched_from limit u asi at)

unfoldable pub access : ℕ → Units → AccessRequest → Action Served
access limit u request.Nothing = done (served u 0)
access limit u (request.Fetch supervisor at) = fetched_in limit u (instruction_space supervisor) at
access limit u (request.Load size asi at) = loaded_in limit u size asi at (space_of asi)
access limit u (request.Store size asi at value) = stored_in limit u size asi at value (space_of asi)
access limit u (request.Exchange size asi at value) = exchanged_in limit u size asi at value (space_of asi)
