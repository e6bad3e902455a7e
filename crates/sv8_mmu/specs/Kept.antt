-- What a lookaside buffer keeps: walks, each with the context and the page that it is for. None of this shows in the definitions of an access.
use Rattle.std.specs.Prelude.{◌≡◌, ◌≢◌, ◌<◌, ◌≤◌, ℕ, ◌+◌, ◌*◌, ◌/◌, ◌%◌, ◌^◌, Bool, true, false, List, [], ◌∷◌, map, take, length, slice_index_or, Contains, Option, Some, None, Result, Ok, Err}
use Rattle.std.specs.Global.{Box}
use Rattle.lru.specs.LruCache.{LruCache}
use Rattle.sv8_model.specs.declared.touch.Touch.{Touch}
use Rattle.sv8_model.specs.declared.touch.Touch.TheVariants.{Read}
use Rattle.sv8_model.specs.Outside.{Outside}
use Rattle.sv8_model.specs.Does.{Does, keeping, no_notes, touching}
use Rattle.sv8_mmu.specs.Walk.{walk}
use Rattle.sv8_mmu.specs.declared.walk.Walked.{Walked}
use Rattle.sv8_mmu.specs.declared.walk.Walked.TheVariants.{Page, Fault}
use Rattle.sv8_mmu.specs.declared.walk.Trail.{Trail}
use Rattle.sv8_mmu.specs.declared.walk.Walk.{Walk}
use Rattle.sv8_mmu.specs.declared.access_type.AccessType.{AccessType}
use Rattle.sv8_mmu.specs.declared.buffer.Key.{Key}
use Rattle.sv8_mmu.specs.declared.registers.Fault as registers
use Rattle.sv8_mmu.specs.declared.translation.Translated.{Translated}
use Rattle.sv8_mmu.specs.declared.translation.Translated.TheVariants.{At, Refused}

-- ---- walks as code has them

-- the addresses of the entries that a walk read, in order
abbrev pub places_of : Trail → List ℕ
places_of t = take t.count t.places

-- what reading them touches
abbrev pub reads_of : List ℕ → List Touch
reads_of places = map (λ at. Read at) places

-- what a walk in RAM of a size can end with: the entry of a page lies there
abbrev pub IsEnd : ℕ → Walked → Type 0
IsEnd limit (Page e level at) = (at + 4 ≤ limit) × (at / 4 * 4 ≡ at)
IsEnd limit (Fault kind level) = Unit {0}

-- what a translation can lead to: an address of 36 bits that keeps its place in its page of 4,096 bytes, or a fault
abbrev pub IsTranslation : ℕ → Translated → Type 0
IsTranslation va (At pa) = (pa % 4096 ≡ va % 4096) × (pa < 2 ^ 36)
IsTranslation va (Refused kind level) = Unit {0}

-- the same with the whole fault, which is of that access
abbrev pub IsAnswer : ℕ → AccessType → Result ℕ registers.Fault → Type 0
IsAnswer va access_type (Ok pa) = (pa % 4096 ≡ va % 4096) × (pa < 2 ^ 36)
IsAnswer va access_type (Err f) = (f.access_type ≡ access_type) × (f.address ≡ va)

-- w is the walk for a context and an address in that RAM, with the entries that it reads
pub record IsWalk (limit : ℕ) (ram : List ℕ) (table_pointer context va : ℕ) (w : Walk) : Type 0 where
  pub end : IsEnd limit w.end
  pub does : (o : Outside) → Does (keeping true true) (walk limit table_pointer context va) (record o { ram = ram }) (record o { ram = ram }) w.end no_notes (touching (reads_of (places_of w.trail)))

-- ---- the buffer

-- a walk that is kept
abbrev pub Kept : Type 0
Kept = Key × Walk

abbrev pub if_kept : Option Kept → List Kept
if_kept None = []
if_kept (Some k) = k ∷ []

-- the walks of a cache, which is made when the first is kept
abbrev pub entries_of : Option (LruCache Key Walk) → List Kept
entries_of None = []
entries_of (Some walks) = walks.entries

-- the walks behind a box, which is made when the first is kept
abbrev pub walks_of : Option (Box (List Kept)) → List Kept
walks_of None = []
walks_of (Some walks) = walks.value

-- the flag of the page of RAM that a word is in
abbrev pub is_marked : List Bool → ℕ → Bool
is_marked pages place = slice_index_or pages (place / 4096 % 256) false

-- each page that any of them has read is marked
abbrev pub AreMarked : List Bool → List Kept → Type 0
AreMarked pages ks = (k : Kept) → Contains ks k → (place : ℕ) → Contains (places_of k.1.trail) place → is_marked pages place ≡ true

-- it is the walk for its context and page in that RAM
abbrev pub Stands : ℕ → List ℕ → ℕ → Kept → Type 0
Stands limit ram table_pointer k = IsWalk limit ram table_pointer k.0.context (k.0.page * 4096) k.1

abbrev pub AllStand : ℕ → List ℕ → ℕ → List Kept → Type 0
AllStand limit ram table_pointer ks = (k : Kept) → Contains ks k → Stands limit ram table_pointer k

-- all of the first are among the second
abbrev pub AreAmong : List Kept → List Kept → Type 0
AreAmong ks old = (k : Kept) → Contains ks k → Contains old k

-- none has read the entry at an address
abbrev pub NoneReads : ℕ → List Kept → Type 0
NoneReads at ks = (k : Kept) → Contains ks k → (place : ℕ) → Contains (places_of k.1.trail) place → place ≢ at

-- none has read a word of a page of RAM
abbrev pub NoneReadsPage : ℕ → List Kept → Type 0
NoneReadsPage page ks = (k : Kept) → Contains ks k → (place : ℕ) → Contains (places_of k.1.trail) place → place / 4096 ≢ page

-- RAM differs at most in a page
pub record DiffersInPage (page : ℕ) (ram now : List ℕ) : Type 0 where
  pub size : length now ≡ length ram
  pub others : (i : ℕ) → i / 4096 ≢ page → slice_index_or now i 0 ≡ slice_index_or ram i 0
