-- Which bytes of RAM a step touches: those of each word that it reads or writes. What is seen of a step in RAM is touched, and what it neither touches
-- nor pokes stays.
use Rattle.std.specs.Prelude.{◌≡◌, ◌⊎◌, ℕ, ◌+◌, ◌<◌, ◌≤◌, ◌&&◌, ◌||◌, Bool, true, false, nat_le, nat_lt, List, [], ◌∷◌, slice_index_or}
use Rattle.std.specs.List.{list_any}
use Rattle.sv8_model.specs.declared.touch.Touch.{Touch}
use Rattle.sv8_model.specs.declared.touch.TouchKind.{TouchKind}
use Rattle.sv8_model.specs.declared.touch.TouchKind.TheVariants.{Any, Data}
use Rattle.sv8_model.specs.declared.observation.Observation.{Observation}
use Rattle.sv8_model.specs.declared.observation.Observation.TheVariants as seen
use Rattle.sv8_model.specs.Outside.{Outside}
use Rattle.sv8_model.specs.Action.{touches, observations}
use Rattle.sv8_model.specs.Cells.{ram_byte, is_read, is_written, is_data}
use Rattle.sv8_time.specs.Order.{Each}
use Rattle.sv8_time.specs.Schedule.{Schedule, BytePoke, pokes_of_step}
use Rattle.sv8_phys.specs.Memory.{ram_size}
use Rattle.sv8_model.specs.Devices.{input_address}
use Rattle.sv8_mmu.specs.Registers.{translates}
use Rattle.sv8_trap.specs.declared.request.AccessRequest.{AccessRequest}
use Rattle.sv8_trap.specs.Requests.{IsAligned}
use Rattle.sv8_memory.specs.Units.{Units}
use Rattle.sv8_memory.specs.Access.{access}
use Rattle.sv8_cpu.specs.State.{State}
use Rattle.sv8_cpu.specs.Run.{step, footprint, observed}

-- ---- bytes that a step leaves alone

-- the word of a byte is read or written
abbrev pub touches_byte : List Touch → ℕ → Bool
touches_byte ts i = is_read ts (ram_byte i) || is_written ts (ram_byte i)

-- the same of the touches that count
abbrev pub touches_byte_as : TouchKind → List Touch → ℕ → Bool
touches_byte_as Any ts i = touches_byte ts i
touches_byte_as Data ts i = is_data ts (ram_byte i)

-- none of the words of so many bytes from an address on is
abbrev pub AreUntouched : TouchKind → ℕ → ℕ → List Touch → Type 0
AreUntouched kind address count ts = (i : ℕ) → address ≤ i → i < address + count → touches_byte_as kind ts i ≡ false

-- a byte is one of so many from an address on
abbrev pub is_within : ℕ → ℕ → ℕ → Bool
is_within address count i = nat_le address i && nat_lt i (address + count)

-- one of them is poked
abbrev pub pokes_any : ℕ → ℕ → List BytePoke → Bool
pokes_any address count ps = list_any (λ p. is_within address count p.address) ps

-- STEP n SPARES so many bytes of RAM: it touches none of their words, by the touches that count, and no event of the step pokes one of them
pub record SparesBytes (kind : TouchKind) (windows pages : ℕ) (schedule : Schedule) (n : ℕ) (s : State) (address count : ℕ) : Type 0 where
  pub touched : AreUntouched kind address count (footprint windows pages schedule n s)
  pub poked : pokes_any address count (pokes_of_step n schedule.pokes) ≡ false

-- each of them then holds after the step what it held before, whichever touches count
abbrev pub SparedBytesStay : Type 0
SparedBytesStay = (kind : TouchKind) (windows pages : ℕ) (schedule : Schedule) (n : ℕ) (s : State) (address count : ℕ) → SparesBytes kind windows pages schedule n s address count
    → (i : ℕ) → address ≤ i → i < address + count → slice_index_or (step windows pages schedule n s).memory.ram i 0 ≡ slice_index_or s.memory.ram i 0

-- ---- what is seen is touched

-- What is seen lies, in RAM of a size, in words that are touched: each byte of an access, and the first one of an instruction that is fetched. An access
-- is of one byte at least.
abbrev pub IsTouched : ℕ → List Touch → Observation → Type 0
IsTouched limit ts (seen.Fetch from word) = touches_byte ts from ≡ true
IsTouched limit ts (seen.Access kind bytes va pa) = (1 ≤ bytes) × (pa < limit → (i : ℕ) → pa ≤ i → i < pa + bytes → touches_byte ts i ≡ true)
IsTouched limit ts (seen.Trap tt) = Unit {0}

-- of one access whose address is a multiple of its size; the devices lie above RAM
abbrev pub AccessesTouch : Type 0
AccessesTouch = (limit : ℕ) (u : Units) (request : AccessRequest) (o : Outside) → limit ≤ input_address → IsAligned request
    → Each (IsTouched limit (touches (access limit u request) o)) (observations (access limit u request) o)

-- of a step
abbrev pub StepsTouch : Type 0
StepsTouch = (windows pages : ℕ) (schedule : Schedule) (n : ℕ) (s : State) → pages ≤ 65536
    → Each (IsTouched (ram_size pages) (footprint windows pages schedule n s)) (observed windows pages schedule n s)

-- Each byte of an access in RAM is data of the step. An access is of one byte at least.
abbrev pub IsOfData : ℕ → List Touch → Observation → Type 0
IsOfData limit ts (seen.Fetch from word) = Unit {0}
IsOfData limit ts (seen.Access kind bytes va pa) = (1 ≤ bytes) × (pa < limit → (i : ℕ) → pa ≤ i → i < pa + bytes → is_data ts (ram_byte i) ≡ true)
IsOfData limit ts (seen.Trap tt) = Unit {0}

abbrev pub AccessesAreData : Type 0
AccessesAreData = (windows pages : ℕ) (schedule : Schedule) (n : ℕ) (s : State) → pages ≤ 65536
    → Each (IsOfData (ram_size pages) (footprint windows pages schedule n s)) (observed windows pages schedule n s)

-- ---- the instruction at PC

-- no address is translated in a state
abbrev pub IsUntranslated : State → Type 0
IsUntranslated s = translates s.mmu ≡ false

-- an interrupt is seen, by its type (table 7-1), and nothing else
pub record IsInterrupted (os : List Observation) : Type 0 where
  pub level : ℕ
  pub some : 1 ≤ level
  pub most : level ≤ 15
  pub seen : os ≡ seen.Trap (0x10 + level) ∷ []

-- A step of a machine that runs, with no annulled slot in front of it, takes an interrupt, or it touches the word at PC: where no address is translated,
-- and PC is in RAM.
abbrev pub FetchesTouch : Type 0
FetchesTouch = (windows pages : ℕ) (schedule : Schedule) (n : ℕ) (s : State) → s.processor.running ≡ true → s.processor.annul ≡ false
    → IsUntranslated s → s.processor.pc < ram_size pages
    → (touches_byte (footprint windows pages schedule n s) s.processor.pc ≡ true) ⊎ IsInterrupted (observed windows pages schedule n s)

-- one that has an annulled slot in front of it takes an interrupt, or nothing is seen of it
abbrev pub AnnulledStepsPass : Type 0
AnnulledStepsPass = (windows pages : ℕ) (schedule : Schedule) (n : ℕ) (s : State) → s.processor.running ≡ true → s.processor.annul ≡ true
    → (observed windows pages schedule n s ≡ []) ⊎ IsInterrupted (observed windows pages schedule n s)
