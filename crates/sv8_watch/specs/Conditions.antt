-- Conditions on a step.
use Rattle.std.specs.Prelude.{◌≡◌, ◌≤◌, ℕ, ◌+◌, ◌%◌, ◌==◌, ◌&&◌, ◌||◌, Bool, true, false, not, nat_lt, List, [], ◌∷◌, length, take, drop, slice_index, Option, Some, None, is_some}
use Rattle.std.specs.List.{list_any}
use Rattle.sv8_model.specs.declared.touch.Touch.{Touch}
use Rattle.sv8_model.specs.Footprint.{is_touch_of}
use Rattle.sv8_model.specs.declared.observation.AccessKind.{AccessKind}
use Rattle.sv8_model.specs.declared.observation.AccessKind.TheVariants as kind
use Rattle.sv8_time.specs.Schedule.{Schedule}
use Rattle.sv8_cpu.specs.State.{State}
use Rattle.sv8_cpu.specs.Run.{step, footprint}
use Rattle.sv8_watch.specs.declared.happening.Access.{Access}
use Rattle.sv8_watch.specs.declared.happening.Happening.{Happening}
use Rattle.sv8_watch.specs.declared.happening.Outcome.{Outcome}
use Rattle.sv8_watch.specs.declared.happening.Outcome.TheVariants as outcome
use Rattle.sv8_watch.specs.declared.condition.Condition.{Condition}
use Rattle.sv8_watch.specs.declared.condition.Condition.TheVariants as condition
use Rattle.sv8_watch.specs.Happening.{happening}

-- ---- the access of an instruction

-- n bytes from a on and m bytes from b on have one in common
abbrev pub overlap : ℕ → ℕ → ℕ → ℕ → Bool
overlap a n b m = nat_lt a (b + m) && nat_lt b (a + n)

abbrev pub loads : AccessKind → Bool
loads kind.Load = true
loads kind.Store = false
loads kind.Exchange = true

abbrev pub stores : AccessKind → Bool
stores kind.Load = false
stores kind.Store = true
stores kind.Exchange = true

-- an access of such a kind has a byte in common with so many bytes from an address on
abbrev pub accesses : (AccessKind → Bool) → ℕ → ℕ → Option Access → Bool
accesses kinds address count None = false
accesses kinds address count (Some x) = kinds x.kind && overlap x.pa x.bytes address count

-- ---- how the step ended

-- the types of interrupts, 10 and the level (table 7-1)
abbrev pub is_interrupt : ℕ → Bool
is_interrupt tt = nat_lt 0x10 tt && nat_lt tt 0x20

-- the instruction at PC was carried out, or trapped itself
abbrev pub is_reached : Outcome → Bool
is_reached outcome.Stop = false
is_reached (outcome.Error tt) = not (is_interrupt tt)
is_reached (outcome.Trap tt) = not (is_interrupt tt)
is_reached outcome.Annul = false
is_reached outcome.Run = true

abbrev pub is_trap : Outcome → Bool
is_trap outcome.Stop = false
is_trap (outcome.Error tt) = true
is_trap (outcome.Trap tt) = true
is_trap outcome.Annul = false
is_trap outcome.Run = false

abbrev pub is_trap_of : ℕ → Outcome → Bool
is_trap_of type outcome.Stop = false
is_trap_of type (outcome.Error tt) = tt == type
is_trap_of type (outcome.Trap tt) = tt == type
is_trap_of type outcome.Annul = false
is_trap_of type outcome.Run = false

abbrev pub is_error : Outcome → Bool
is_error outcome.Stop = false
is_error (outcome.Error tt) = true
is_error (outcome.Trap tt) = false
is_error outcome.Annul = false
is_error outcome.Run = false

-- ---- memory

-- a word is read or written
abbrev pub is_touched : ℕ → List Touch → Bool
is_touched address ts = list_any (is_touch_of address) ts

-- one of some bytes is another one than that of RAM, from an address on
abbrev pub differ_from : List ℕ → ℕ → List ℕ → Bool
differ_from [] address ram = false
differ_from (b ∷ bs) address ram = not (b == slice_index ram address) || differ_from bs (address + 1) ram

-- so many bytes from an address on
abbrev pub bytes_from : ℕ → ℕ → List ℕ → List ℕ
bytes_from address count ram = take count (drop address ram)

-- one of so many bytes from an address on is another one
abbrev pub is_changed : ℕ → ℕ → List ℕ → List ℕ → Bool
is_changed address count ram now = differ_from (bytes_from address count ram) address now

-- these are the bytes that a condition compares with those after the step
abbrev pub AreOld : Condition → List ℕ → State → Type 0
AreOld (condition.Change address count) old s = old ≡ bytes_from address count s.memory.ram
AreOld c old s = Unit {0}

-- the bytes that a condition compares lie in RAM
abbrev pub IsWithin : ℕ → Condition → List ℕ → Type 0
IsWithin size (condition.Change address count) old = address + length old ≤ size
IsWithin size c old = Unit {0}

-- ---- a condition

-- step n, which leads from one state to another, with what happened in it and what it touched, meets a condition
abbrev pub is_met : ℕ → State → State → Happening → List Touch → Condition → Bool
is_met n before after h ts (condition.Pc address) = h.pc == address && is_reached h.outcome
is_met n before after h ts (condition.Load address count) = accesses loads address count h.access
is_met n before after h ts (condition.Store address count) = accesses stores address count h.access
is_met n before after h ts (condition.Touch address) = is_touched address ts
is_met n before after h ts (condition.Change address count) = is_changed address count before.memory.ram after.memory.ram
is_met n before after h ts condition.Trap = is_trap h.outcome
is_met n before after h ts (condition.TrapType tt) = is_trap_of tt h.outcome
is_met n before after h ts condition.Error = is_error h.outcome
is_met n before after h ts condition.Input = is_some h.taken
is_met n before after h ts condition.Output = is_some h.put
is_met n before after h ts condition.Event = h.event
is_met n before after h ts (condition.Every number) = nat_lt 0 number && n % number == 0

-- step n from a state on meets it
abbrev pub meets : ℕ → ℕ → Schedule → ℕ → State → Condition → Bool
meets windows pages schedule n s c = is_met n s (step windows pages schedule n s) (happening windows pages schedule n s) (footprint windows pages schedule n s) c

-- some condition of a list, or there is none
abbrev pub meets_any : ℕ → ℕ → Schedule → ℕ → State → List Condition → Bool
meets_any windows pages schedule n s [] = true
meets_any windows pages schedule n s (c ∷ cs) = list_any (meets windows pages schedule n s) (c ∷ cs)
