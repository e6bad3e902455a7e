-- The types of accesses (Appendix H).
use Rattle.std.specs.Prelude.{ℕ, Bool, nat_lt}
use Rattle.sv8_mmu.specs.declared.access_type.AccessType.{AccessType}
use Rattle.sv8_mmu.specs.declared.access_type.AccessType.TheVariants.{UserLoad, SupervisorLoad, UserFetch, SupervisorFetch, UserStore, SupervisorStore, UserInstructionStore, SupervisorInstructionStore}

-- the number by which the fault status tells it
abbrev pub number_of : AccessType → ℕ
number_of UserLoad = 0
number_of SupervisorLoad = 1
number_of UserFetch = 2
number_of SupervisorFetch = 3
number_of UserStore = 4
number_of SupervisorStore = 5
number_of UserInstructionStore = 6
number_of SupervisorInstructionStore = 7

-- an access that stores, in whatever space
abbrev pub is_store : AccessType → Bool
is_store access_type = nat_lt 3 (number_of access_type)
