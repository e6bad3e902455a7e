-- The walk through the tables, from the context table on (Appendix H, address translation). An entry has its type in bits 1:0: 0 invalid, 1 a pointer to a
-- table of the next level, 2 the entry of a page, 3 reserved.
use Rattle.std.specs.Prelude.{ℕ, ◌+◌, ◌*◌, ◌/◌, ◌%◌, ◌^◌, ◌==◌, Bool, nat_lt, List, [], ◌∷◌, if◌then◌else◌}
use Rattle.sv8_model.specs.Words.{field}
use Rattle.sv8_model.specs.Action.{Action, done, load_word}
use Rattle.sv8_mmu.specs.declared.fault_type.FaultType.TheVariants as of
use Rattle.sv8_mmu.specs.declared.table_level.TableLevel.{TableLevel}
use Rattle.sv8_mmu.specs.declared.table_level.TableLevel.TheVariants.{Context, Level1, Level2, Level3}
use Rattle.sv8_mmu.specs.declared.walk.TableIndex.{TableIndex}
use Rattle.sv8_mmu.specs.declared.walk.Walked.{Walked}
use Rattle.sv8_mmu.specs.declared.walk.Walked.TheVariants.{Page, Fault}

-- ---- entries

abbrev pub is_invalid : ℕ → Bool
is_invalid e = e % 4 == 0

abbrev pub is_pointer : ℕ → Bool
is_pointer e = e % 4 == 1

abbrev pub is_page_entry : ℕ → Bool
is_page_entry e = e % 4 == 2

-- the address of the table that a pointer, or the context table pointer register, names: bits 31:2 hold bits 35:6 of it
abbrev pub table_of : ℕ → ℕ
table_of word = word / 2 ^ 2 * 2 ^ 6

-- the entry at an address is read from RAM of a size; an entry outside RAM is not read
abbrev pub entry_at : {R : Type 0} → ℕ → ℕ → R → (ℕ → Action R) → Action R
entry_at limit at outside use_entry = if nat_lt at limit then load_word (at / 4) use_entry else done outside

-- ---- the walk

-- an index into a table of a level
abbrev pub index_at : TableLevel → ℕ → TableIndex
index_at level index = record { level = level; index = index }

-- the indices into the tables of levels 1, 2 and 3
abbrev pub indices_of : ℕ → List TableIndex
indices_of va = index_at Level1 (field va 31 24) ∷ index_at Level2 (field va 23 18) ∷ index_at Level3 (field va 17 12) ∷ []

-- the entry of the context in the context table
abbrev pub root_of : ℕ → ℕ → ℕ
root_of table_pointer context = table_of table_pointer + 4 * context

-- what an entry at a level leads to: an invalid one is a fault of type 1, a reserved one of type 4
abbrev pub met : TableLevel → ℕ → (ℕ → Action Walked) → ℕ → Action Walked
met level at deeper e =
    if is_pointer e then deeper e else
    (if is_page_entry e then done (Page e level at) else
    (if is_invalid e then done (Fault of.InvalidAddress level) else done (Fault of.Translation level)))

-- the entry of a level at an address, and what it leads to
abbrev pub looked_up : ℕ → TableLevel → ℕ → (ℕ → Action Walked) → Action Walked
looked_up limit level at deeper = entry_at limit at (Fault of.Translation level) (met level at deeper)

-- what a pointer at a level leads to, with the indices into the tables below: the entry of the next level; at level 3 a fault of type 4
unfoldable pub below_pointer : ℕ → TableLevel → List TableIndex → ℕ → Action Walked
below_pointer limit level [] e = done (Fault of.Translation level)
below_pointer limit level (to ∷ below) e = looked_up limit to.level (table_of e + 4 * to.index) (λ next. below_pointer limit to.level below next)

-- the walk for a virtual address, from level 0, the context table, on
unfoldable pub walk : ℕ → ℕ → ℕ → ℕ → Action Walked
walk limit table_pointer context va = looked_up limit Context (root_of table_pointer context) (below_pointer limit Context (indices_of va))
