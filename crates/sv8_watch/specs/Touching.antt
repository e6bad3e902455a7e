-- Conditions that a step does not meet where it leaves some bytes of RAM alone.
use Rattle.std.specs.Prelude.{◌≡◌, ℕ, ◌+◌, ◌%◌, ◌≤◌, ◌==◌, false, Option, Some, None, if◌then◌else◌}
use Rattle.sv8_model.specs.declared.touch.TouchKind.{TouchKind}
use Rattle.sv8_model.specs.declared.touch.TouchKind.TheVariants.{Any, Data}
use Rattle.sv8_time.specs.Schedule.{Schedule}
use Rattle.sv8_phys.specs.Memory.{ram_size}
use Rattle.sv8_cpu.specs.State.{State}
use Rattle.sv8_cpu.specs.Touching.{IsUntranslated, SparesBytes}
use Rattle.sv8_watch.specs.declared.condition.Condition.{Condition}
use Rattle.sv8_watch.specs.declared.condition.Condition.TheVariants as condition
use Rattle.sv8_watch.specs.declared.span.Span.{Span}
use Rattle.sv8_watch.specs.Conditions.{meets}

-- ---- the bytes of a condition

-- so many bytes from an address on, if any
abbrev pub some_bytes : ℕ → ℕ → Option Span
some_bytes address count = if count == 0 then None else Some (record { address = address; count = count })

-- the word at an address, which is a multiple of 4
abbrev pub word_span : ℕ → Option Span
word_span address = if address % 4 == 0 then some_bytes address 4 else None

-- the bytes of RAM that a step has to touch, or to poke, where it meets a condition; a condition on anything else has none, and one on no bytes
abbrev pub span_of : Condition → Option Span
span_of (condition.Pc address) = None
span_of (condition.Load address count) = some_bytes address count
span_of (condition.Store address count) = some_bytes address count
span_of (condition.Touch address) = word_span address
span_of (condition.Change address count) = some_bytes address count
span_of condition.Trap = None
span_of (condition.TrapType tt) = None
span_of condition.Error = None
span_of condition.Input = None
span_of condition.Output = None
span_of condition.Event = None
span_of (condition.Every number) = None

-- Which touches of these bytes count. A load or a store is an access to data, and a byte that changes is data; a word is touched by fetches, too.
abbrev pub kind_of : Condition → TouchKind
kind_of (condition.Pc address) = Any
kind_of (condition.Load address count) = Data
kind_of (condition.Store address count) = Data
kind_of (condition.Touch address) = Any
kind_of (condition.Change address count) = Data
kind_of condition.Trap = Any
kind_of (condition.TrapType tt) = Any
kind_of condition.Error = Any
kind_of condition.Input = Any
kind_of condition.Output = Any
kind_of condition.Event = Any
kind_of (condition.Every number) = Any

-- ---- laws

-- A STEP THAT SPARES THE BYTES OF A CONDITION DOES NOT MEET IT: it touches none of their words, by the touches that count, and pokes none
-- of them, and they lie in RAM.
abbrev pub SparedStepsMiss : Type 0
SparedStepsMiss = (windows pages : ℕ) (schedule : Schedule) (n : ℕ) (s : State) (c : Condition) (span : Span) → pages ≤ 65536
    → span_of c ≡ Some span → span.address + span.count ≤ ram_size pages → SparesBytes (kind_of c) windows pages schedule n s span.address span.count
    → meets windows pages schedule n s c ≡ false

-- The same of a PC, where no address is translated: the instruction there is reached in no step that spares its word.
abbrev pub SparedPcsMiss : Type 0
SparedPcsMiss = (windows pages : ℕ) (schedule : Schedule) (n : ℕ) (s : State) (address : ℕ) → IsUntranslated s → address + 4 ≤ ram_size pages
    → SparesBytes Any windows pages schedule n s address 4 → meets windows pages schedule n s (condition.Pc address) ≡ false
