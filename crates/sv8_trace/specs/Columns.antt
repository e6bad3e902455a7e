-- Columns of what was changed in checkpoints, each of one page or of one interrupt level, and what they show.
use Rattle.std.specs.Prelude.{◌≡◌, ℕ, suc, ◌≤◌, length, map, take, List, [], ◌∷◌, slice_get, slice_index_or, slice_set, Bool, Option, Some, None, unwrap_or, option_map, MatchOption, ⊤}
use Rattle.std.specs.List.{All}
use Rattle.sv8_phys.specs.Memory.{with_page}
use Rattle.sv8_cpu.specs.State.{State}

-- each that there is has a property
abbrev pub AllThere : {X : Type 0} → (X → Type 0) → List (Option X) → Type 0
AllThere P os = (q : ℕ) → MatchOption (slice_index_or os q None) ⊤ P

-- each column has so many checkpoints
abbrev pub AreFull : {X : Type 0} → ℕ → List (Option (List X)) → Type 0
AreFull count columns = AllThere (λ c. length c ≡ count) columns

-- no column has anything for the checkpoints from one on
abbrev pub AreIdleFrom : {X : Type 0} → ℕ → List (Option (List X)) → Type 0
AreIdleFrom from columns = AllThere (λ c. length c ≤ from) columns

-- a page has all its bytes
abbrev pub IsWhole : List ℕ → Type 0
IsWhole page = length page ≡ 4096

-- There is a place for the column of each page and of each level, and the pages are whole.
pub record AreColumns (pages : ℕ) (columns : List (Option (List (List ℕ)))) (levels : List (Option (List Bool))) : Type 0 where
  pub pages_count : length columns ≡ pages
  pub levels_count : length levels ≡ 16
  -- level 0 is none
  pub no_level : slice_index_or levels 0 None ≡ None
  pub whole_pages : AllThere (All IsWhole) columns

-- ---- what columns show

-- what a column has of checkpoint i
abbrev pub item : {X : Type 0} → ℕ → Option (List X) → Option X
item i None = None
item i (Some column) = slice_get column i

-- with each that there is put in its place, where the first one is that of place p
abbrev pub put_from : {X Y : Type 0} → (Y → ℕ → X → Y) → ℕ → List (Option X) → Y → Y
put_from put p [] whole = whole
put_from put p (o ∷ os) whole = put_from put (suc p) os (unwrap_or (option_map (put whole p) o) whole)

-- RAM of checkpoint i, with the page of each column in its place; the first column is that of page p
abbrev pub placed_pages : ℕ → List (Option (List (List ℕ))) → ℕ → List ℕ → List ℕ
placed_pages p columns i ram = put_from with_page p (map (item i) columns) ram

-- the pending levels of checkpoint i, with those of each column in their places; the first column is that of level l
abbrev pub placed_levels : ℕ → List (Option (List Bool)) → ℕ → List Bool → List Bool
placed_levels l columns i pending = put_from slice_set l (map (item i) columns) pending

-- checkpoint i with the columns of the pages, or levels, from one on in their places
abbrev pub pages_from : ℕ → List (Option (List (List ℕ))) → ℕ → State → State
pages_from p columns i s = record s { memory = record s.memory { ram = placed_pages p columns i s.memory.ram } }

abbrev pub levels_from : ℕ → List (Option (List Bool)) → ℕ → State → State
levels_from l columns i s = record s { memory = record s.memory { pending = placed_levels l columns i s.memory.pending } }

-- CHECKPOINT i WITH ALL COLUMNS IN THEIR PLACES
abbrev pub overlaid : List (Option (List (List ℕ))) → List (Option (List Bool)) → ℕ → State → State
overlaid pages levels i s = levels_from 0 levels i (pages_from 0 pages i s)

-- ---- changes of columns

-- the columns of the first checkpoints alone
abbrev pub cut_column : {X : Type 0} → ℕ → Option (List X) → Option (List X)
cut_column count column = option_map (take count) column

-- a column in the place of another, if there is one
abbrev pub put_over : {X : Type 0} → Option X → Option X → Option X
put_over None old = old
put_over (Some c) old = Some c

abbrev pub ArePut : {X : Type 0} → List (Option X) → List (Option X) → List (Option X) → Type 0
ArePut changed old new = (q : ℕ) → slice_index_or new q None ≡ put_over (slice_index_or changed q None) (slice_index_or old q None)
