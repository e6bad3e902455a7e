-- Which steps of a run are told.
use Rattle.std.specs.Prelude.{◌≡◌, ◌⊎◌, ℕ, zero, suc, ◌≤◌, ◌+◌, ◌-◌, ◌/◌, ◌*◌, ◌%◌, ◌<◌, ◌==◌, ◌&&◌, Bool, true, false, List, [], ◌∷◌, ◌++◌, max, nat_le, Option, Some, None, if◌then◌else◌}
use Rattle.std.specs.List.{list_any}
use Rattle.sv8_model.specs.declared.touch.Touch.{Touch as Note}
use Rattle.sv8_cpu.specs.State.{State}
use Rattle.sv8_cpu.specs.Work.{counted, counted_by}
use Rattle.sv8_history.specs.Growing.{restored}
use Rattle.sv8_trace.specs.Recorder.{RaisedUpTo}
use Rattle.sv8_time.specs.declared.fault.TimeFault.TheVariants.{BadAddress}
use Rattle.sv8_workbench.specs.declared.fault.BenchFault.{BenchFault}
use Rattle.sv8_workbench.specs.declared.fault.BenchFault.TheVariants.{Time}
use Rattle.sv8_workbench.specs.Faults.{step_refusal}
use Rattle.sv8_workbench.specs.Kept.{Kept}
use Rattle.sv8_workbench.specs.Shown.{machine_state}
use Rattle.sv8_bench.specs.Workbench.{Workbench, checkpoints}
use Rattle.sv8_watch.specs.declared.condition.Condition.{Condition}
use Rattle.sv8_watch.specs.declared.condition.Condition.TheVariants.{Pc, Load, Store, Touch, Change, Trap, TrapType, Error, Input, Output, Event, Every}
use Rattle.sv8_watch.specs.declared.happening.Happening.{Happening}
use Rattle.sv8_watch.specs.Happening.{happening}
use Rattle.sv8_watch.specs.Conditions.{is_met, meets, meets_any, bytes_from}
use Rattle.sv8_search.specs.declared.found.Found.{Found}

-- step n with what happens in it
abbrev pub found_at : Kept → ℕ → Found
found_at k n = record { step = n; happening = happening k.windows k.pages k.timeline n (machine_state k n) }

-- step n meets one of the conditions, or there is none
abbrev pub is_wanted : Kept → List Condition → ℕ → Bool
is_wanted k cs n = meets_any k.windows k.pages k.timeline n (machine_state k n) cs

-- step n meets a condition
abbrev pub meets_at : Kept → Condition → ℕ → Bool
meets_at k c n = meets k.windows k.pages k.timeline n (machine_state k n) c

-- no step from one on and below another meets a condition
abbrev pub MeetsNone : Kept → Condition → ℕ → ℕ → Type 0
MeetsNone k c from to = (n : ℕ) → from ≤ n → n < to → meets_at k c n ≡ false

abbrev pub wanted_found : Kept → List Condition → ℕ → Option Found
wanted_found k cs n = if is_wanted k cs n then Some (found_at k n) else None

abbrev pub list_of : {A : Type 0} → Option A → List A
list_of None = []
list_of (Some x) = x ∷ []

-- the steps that are wanted among so many from n on, rising, and at most so many of them
abbrev pub rising : (ℕ → Bool) → ℕ → ℕ → ℕ → List ℕ
rising wanted n zero most = []
rising wanted n (suc left) zero = []
rising wanted n (suc left) (suc most) = if wanted n then n ∷ rising wanted (n + 1) left most else rising wanted (n + 1) left (suc most)

-- the step behind the last one that has to be looked at for them
abbrev pub looked_to : (ℕ → Bool) → ℕ → ℕ → ℕ → ℕ
looked_to wanted n zero most = n
looked_to wanted n (suc left) zero = n
looked_to wanted n (suc left) (suc most) = if wanted n then looked_to wanted (n + 1) left most else looked_to wanted (n + 1) left (suc most)

-- the steps that are wanted among so many from n on, falling, and at most so many of them
abbrev pub falling : (ℕ → Bool) → ℕ → ℕ → ℕ → List ℕ
falling wanted n zero most = []
falling wanted n (suc left) zero = []
falling wanted n (suc left) (suc most) = if wanted (n + left) then (n + left) ∷ falling wanted n left most else falling wanted n left (suc most)

-- the lowest step that has to be looked at for them
abbrev pub sought_to : (ℕ → Bool) → ℕ → ℕ → ℕ → ℕ
sought_to wanted n zero most = n
sought_to wanted n (suc left) zero = n + suc left
sought_to wanted n (suc left) (suc most) = if wanted (n + left) then sought_to wanted n left most else sought_to wanted n left (suc most)

-- THE STEPS THAT ARE TOLD: from the first one up to the second, which is not looked at, or from the step in front of the first one down to the second
abbrev pub steps_told : Kept → ℕ → ℕ → ℕ → List Condition → List ℕ
steps_told k from to most cs = if nat_le from to then rising (is_wanted k cs) from (to - from) most else falling (is_wanted k cs) to (from - to) most

-- ---- conditions on RAM

-- the bytes, or the word, of a condition lie in RAM of a size
abbrev pub is_inside : ℕ → Condition → Bool
is_inside size (Pc address) = true
is_inside size (Load address count) = nat_le (address + count) size
is_inside size (Store address count) = nat_le (address + count) size
is_inside size (Touch address) = address % 4 == 0 && nat_le (address + 4) size
is_inside size (Change address count) = nat_le (address + count) size
is_inside size Trap = true
is_inside size (TrapType type) = true
is_inside size Error = true
is_inside size Input = true
is_inside size Output = true
is_inside size Event = true
is_inside size (Every number) = true

abbrev pub are_inside : ℕ → List Condition → Bool
are_inside size [] = true
are_inside size (c ∷ cs) = is_inside size c && are_inside size cs

-- ---- refusals

abbrev pub if_none : Option BenchFault → Option BenchFault → Option BenchFault
if_none (Some fault) other = Some fault
if_none None other = other

-- both steps are looked at first
abbrev pub steps_refusal : ℕ → ℕ → List Condition → Kept → Option BenchFault
steps_refusal from to conditions k =
    if_none (step_refusal from) (if_none (step_refusal to) (if are_inside (4096 * k.pages) conditions then None else Some (Time BadAddress)))

-- ---- what a search leaves of a workbench

-- The steps from n on and below m were made, one after the other, and are recorded as far as they lead to a checkpoint.
pub record IsWalked (k n m : ℕ) (old new : Workbench) : Type 0 where
  pub kept : new.kept ≡ old.kept
  pub recorded : checkpoints new ≡ max (checkpoints old) (m / k)
  pub worked : new.worked ≡ counted_by (m - n) old.worked

-- Some of them were, or none, and the walk may have been given up.
pub record IsStopped (k n m : ℕ) (old new : Workbench) : Type 0 where
  pub kept : new.kept ≡ old.kept
  pub fewest : checkpoints old ≤ checkpoints new
  pub most : checkpoints new ≤ max (checkpoints old) (m / k)
  pub worked : RaisedUpTo (m - n) old.worked new.worked

-- A rising search from a step on has looked at the steps below another one: those behind the last checkpoint up to the first step were made.
abbrev pub IsSearched : ℕ → ℕ → ℕ → Workbench → Workbench → Type 0
IsSearched k from end old new = IsWalked k (restored k (checkpoints old) from) end old new

-- It was given up for want of memory.
abbrev pub IsAbandoned : ℕ → ℕ → ℕ → Workbench → Workbench → Type 0
IsAbandoned k from to old new = IsStopped k (restored k (checkpoints old) from) to old new

-- A search has passed over steps, since all of them are recorded and their notes show that none can be wanted, or it has looked at them
abbrev pub IsPassedOrSearched : ℕ → ℕ → ℕ → Workbench → Workbench → Type 0
IsPassedOrSearched k from end old new = ((new ≡ old) × (end / k ≤ checkpoints old)) ⊎ IsSearched k from end old new

-- the checkpoint at a step, or the last one below it
abbrev pub checkpoint_of : ℕ → ℕ → ℕ
checkpoint_of k n = k * (n / k)

-- how many steps a falling search makes at most, from below one step down to another: those that no checkpoint stands behind, and each interval once
abbrev pub sought_steps : ℕ → ℕ → ℕ → ℕ → ℕ
sought_steps k recorded from lowest = (from - restored k recorded (from - 1)) + (checkpoint_of k (from - 1) - checkpoint_of k lowest)

-- A falling search from below a step on has looked at the steps down to the lowest one.
pub record IsSought (k from lowest : ℕ) (old new : Workbench) : Type 0 where
  pub kept : new.kept ≡ old.kept
  pub fewest : checkpoints old ≤ checkpoints new
  pub most : checkpoints new ≤ max (checkpoints old) (from / k)
  pub worked : RaisedUpTo (sought_steps k (checkpoints old) from lowest) old.worked new.worked

-- A step was tried, and may have been made.
pub record IsTried (k n : ℕ) (old new : Workbench) : Type 0 where
  pub kept : new.kept ≡ old.kept
  pub fewest : checkpoints old ≤ checkpoints new
  pub most : checkpoints new ≤ max (checkpoints old) ((n + 1) / k)
  pub worked : (new.worked ≡ old.worked) ⊎ (new.worked ≡ counted old.worked)

-- ---- the bytes that conditions compare

-- how many bytes a condition compares
abbrev pub old_count : Condition → ℕ
old_count (Pc address) = 0
old_count (Load address count) = 0
old_count (Store address count) = 0
old_count (Touch address) = 0
old_count (Change address count) = count
old_count Trap = 0
old_count (TrapType type) = 0
old_count Error = 0
old_count Input = 0
old_count Output = 0
old_count Event = 0
old_count (Every number) = 0

-- of all conditions
abbrev pub olds_count : List Condition → ℕ
olds_count [] = 0
olds_count (c ∷ cs) = old_count c + olds_count cs

-- these bytes
abbrev pub old_of : Condition → List ℕ → List ℕ
old_of (Pc address) ram = []
old_of (Load address count) ram = []
old_of (Store address count) ram = []
old_of (Touch address) ram = []
old_of (Change address count) ram = bytes_from address count ram
old_of Trap ram = []
old_of (TrapType type) ram = []
old_of Error ram = []
old_of Input ram = []
old_of Output ram = []
old_of Event ram = []
old_of (Every number) ram = []

-- of all conditions, one after the other
abbrev pub olds_of : List Condition → List ℕ → List ℕ
olds_of [] ram = []
olds_of (c ∷ cs) ram = old_of c ram ++ olds_of cs ram

-- ---- the parts of a search

-- a step meets one of some conditions, or there is none: `meets_any` of what was seen of the step
abbrev pub any_met : ℕ → State → State → Happening → List Note → List Condition → Bool
any_met n before after h ts [] = true
any_met n before after h ts (c ∷ cs) = list_any (is_met n before after h ts) (c ∷ cs)

-- how many steps may follow one that was looked at, of so many
abbrev pub left_behind : {A : Type 0} → Option A → ℕ → ℕ
left_behind None left = left
left_behind (Some x) left = left - 1

-- what was found, where it is wanted
abbrev pub found_if : Bool → Found → Option Found
found_if wanted x = if wanted then Some x else None

-- what was found, if anything, was added, and so many more may follow
pub record IsAdded (found : Option Found) (left : ℕ) (before after : List Found) (rest : ℕ) : Type 0 where
  pub items : after ≡ before ++ list_of found
  pub room : rest ≡ left_behind found left

-- where the interval below a step begins in a search down to another one: at the checkpoint below it, or there
pub record IsStart (k to end start : ℕ) : Type 0 where
  pub low : to ≤ start
  pub below : start < end
  pub interval : start / k ≡ (end - 1) / k
  pub aligned : (start ≡ to) ⊎ (k * (start / k) ≡ start)
