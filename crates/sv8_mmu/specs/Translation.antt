-- Translation of a virtual address: the walk, the check of the access against the entry, and the marks R and M that it leaves in it (Appendix H).
use Rattle.std.specs.Prelude.{ℕ, ◌+◌, ◌*◌, ◌/◌, ◌%◌, ◌^◌, Bool, ◌||◌, ◌==◌, nat_lt, List, [], ◌∷◌, slice_index_or, Option, Some, None, if◌then◌else◌}
use Rattle.sv8_model.specs.Words.{field, bit}
use Rattle.sv8_model.specs.Action.{Action, done, store_word, ◌>>=◌}
use Rattle.sv8_model.specs.Devices.{input_address, waiting_address, output_address, count_address, reload_address, pending_address}
use Rattle.sv8_mmu.specs.declared.access_type.AccessType.{AccessType}
use Rattle.sv8_mmu.specs.declared.access_type.AccessType.TheVariants.{UserLoad, SupervisorLoad, UserFetch, SupervisorFetch, UserStore, SupervisorStore, UserInstructionStore, SupervisorInstructionStore}
use Rattle.sv8_mmu.specs.declared.fault_type.FaultType.{FaultType}
use Rattle.sv8_mmu.specs.declared.fault_type.FaultType.TheVariants as of
use Rattle.sv8_mmu.specs.declared.registers.Mmu.{Mmu}
use Rattle.sv8_mmu.specs.declared.table_level.TableLevel.{TableLevel}
use Rattle.sv8_mmu.specs.declared.table_level.TableLevel.TheVariants.{Context}
use Rattle.sv8_mmu.specs.declared.walk.Walked.{Walked}
use Rattle.sv8_mmu.specs.declared.walk.Walked.TheVariants.{Page, Fault}
use Rattle.sv8_mmu.specs.declared.translation.Reach.{Reach}
use Rattle.sv8_mmu.specs.declared.translation.Reach.TheVariants as reach
use Rattle.sv8_mmu.specs.declared.translation.Translated.{Translated}
use Rattle.sv8_mmu.specs.declared.translation.Translated.TheVariants.{At, Refused}
use Rattle.sv8_mmu.specs.AccessTypes.{is_store}
use Rattle.sv8_mmu.specs.FaultTypes.{refused_by}
use Rattle.sv8_mmu.specs.TableLevels.{page_size}
use Rattle.sv8_mmu.specs.Registers.{translates}
use Rattle.sv8_mmu.specs.Walk.{walk}

-- ---- permissions

-- The fault types of an access type, for the values 0 to 7 of ACC in an entry: 0 none, 2 protection, 3 privilege. ACC allows user and supervisor:
-- 0 R and R, 1 RW and RW, 2 RX and RX, 3 RWX and RWX, 4 X and X, 5 R and RW, 6 nothing and RX, 7 nothing and RWX.
abbrev pub fault_types : AccessType → List ℕ
fault_types UserLoad = 0 ∷ 0 ∷ 0 ∷ 0 ∷ 2 ∷ 0 ∷ 3 ∷ 3 ∷ []
fault_types SupervisorLoad = 0 ∷ 0 ∷ 0 ∷ 0 ∷ 2 ∷ 0 ∷ 0 ∷ 0 ∷ []
fault_types UserFetch = 2 ∷ 2 ∷ 0 ∷ 0 ∷ 0 ∷ 2 ∷ 3 ∷ 3 ∷ []
fault_types SupervisorFetch = 2 ∷ 2 ∷ 0 ∷ 0 ∷ 0 ∷ 2 ∷ 0 ∷ 0 ∷ []
fault_types UserStore = 2 ∷ 0 ∷ 2 ∷ 0 ∷ 2 ∷ 2 ∷ 3 ∷ 3 ∷ []
fault_types SupervisorStore = 2 ∷ 0 ∷ 2 ∷ 0 ∷ 2 ∷ 0 ∷ 2 ∷ 0 ∷ []
fault_types UserInstructionStore = 2 ∷ 2 ∷ 2 ∷ 0 ∷ 2 ∷ 2 ∷ 3 ∷ 3 ∷ []
fault_types SupervisorInstructionStore = 2 ∷ 2 ∷ 2 ∷ 0 ∷ 2 ∷ 2 ∷ 2 ∷ 0 ∷ []

-- the field ACC of a page's entry
abbrev pub permission : ℕ → ℕ
permission e = field e 4 2

-- the fault of an access to a page by its entry, if there is one
unfoldable pub fault_type : AccessType → ℕ → Option FaultType
fault_type access_type e = refused_by (slice_index_or (fault_types access_type) (permission e) 0)

-- ---- marks

-- a word with bit k set
abbrev pub with_bit : ℕ → ℕ → ℕ
with_bit word k = if bit word k then word else word + 2 ^ k

-- an access sets R, bit 5, in the entry of its page; a store also M, bit 6
unfoldable pub marked : AccessType → ℕ → ℕ
marked access_type e = if is_store access_type then with_bit (with_bit e 5) 6 else with_bit e 5

-- ---- physical addresses

-- bits 31:8 of the entry are bits 35:12 of the physical address, of which the virtual address replaces those inside the page
unfoldable pub physical_address : ℕ → TableLevel → ℕ → ℕ
physical_address e level va = e / 2 ^ 8 * 2 ^ 12 / page_size level * page_size level + va % page_size level

abbrev pub is_device : ℕ → Bool
is_device pa =
    pa == input_address || (pa == waiting_address || (pa == output_address || (pa == count_address || (pa == reload_address || pa == pending_address))))

-- RAM serves every access, devices loads and stores of words alone
abbrev pub is_served : ℕ → Reach → ℕ → Bool
is_served limit reach.Ram pa = nat_lt pa limit
is_served limit reach.RamOrDevices pa = nat_lt pa limit || is_device pa

-- ---- translation

-- the entry is stored where its marks change
abbrev pub with_marks : AccessType → ℕ → ℕ → Translated → Action Translated
with_marks access_type e at answer = if marked access_type e == e then done answer else store_word (at / 4) (marked access_type e) (done answer)

-- an access to what nothing serves is a fault of type 5, which has no level (its number is 0); one that is served leaves its marks
abbrev pub reached : ℕ → AccessType → Reach → ℕ → ℕ → ℕ → Action Translated
reached limit access_type reach pa e at = if is_served limit reach pa then with_marks access_type e at (At pa) else done (Refused of.AccessBus Context)

-- a fault of the check, or what follows where there is none
abbrev pub unless_refused : Option FaultType → TableLevel → Action Translated → Action Translated
unless_refused None level allowed = allowed
unless_refused (Some kind) level allowed = done (Refused kind level)

-- what the end of a walk leads to: the access is checked against the entry, and then its physical address
unfoldable pub settled : ℕ → ℕ → AccessType → Reach → Walked → Action Translated
settled limit va access_type reach (Fault kind level) = done (Refused kind level)
settled limit va access_type reach (Page e level at) =
    unless_refused (fault_type access_type e) level (reached limit access_type reach (physical_address e level va) e at)

-- with E = 0 the physical address is the virtual one, and whether it is served shows in the access itself
unfoldable pub translate : ℕ → Mmu → ℕ → AccessType → Reach → Action Translated
translate limit r va access_type reach =
    if translates r then (walk limit r.table_pointer r.context va >>= settled limit va access_type reach) else done (At va)
