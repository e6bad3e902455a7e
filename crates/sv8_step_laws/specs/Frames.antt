-- The frame laws of a step and of any number of steps, over the whole state: all that the processor has, and all that is outside of it.
use Rattle.std.specs.Prelude.{◌≡◌, ℕ, zero, suc, ◌+◌, ◌<◌, ◌≤◌, ◌==◌, Bool, true, false, not, ◌&&◌, List, [], ◌++◌, length, Option, Some}
use Rattle.sv8_model.specs.declared.touch.Touch.{Touch}
use Rattle.sv8_model.specs.Outside.{Outside}
use Rattle.sv8_model.specs.Action.{result_of, after, touches}
use Rattle.sv8_model.specs.Cells.{Cell, ram_byte, waiting_bytes, pending_level, Value, byte, held, get, is_read, is_written}
use Rattle.sv8_model.specs.Footprint.{reads_input}
use Rattle.sv8_model.specs.Frame.{Cells, Alike, Unread, remaining, IsSound}
use Rattle.sv8_time.specs.Schedule.{Schedule, arrived, BytePoke, IsTimeline, pokes_of_step, requests_of_step, bytes_of_step}
use Rattle.sv8_time.specs.declared.requests.Request.{Request}
use Rattle.sv8_phys.specs.Memory.{ram_size}
use Rattle.sv8_phys.specs.Contents.{outside_of}
use Rattle.sv8_source.specs.Text.{Text}
use Rattle.sv8_cpu.specs.Step.{Inner, action}
use Rattle.sv8_memory.specs.Events.{poked, marked}
use Rattle.sv8_cpu.specs.State.{State, inner_of}
use Rattle.sv8_cpu.specs.Run as run
use Rattle.sv8_cpu.specs.Recorded.{poke_of}
use Rattle.sv8_reset.specs.Reset.{reset_state, state_at}

-- ---- the whole state, and its steps

-- the bytes that wait at the console are a part of it, so that it says all that a step may depend on but for the events of the step
pub record WholeState : Type 0 where
  pub inner : Inner
  pub outside : Outside

-- what comes from outside in one step: poked bytes, requested levels, and the bytes that come in at the console
pub record StepEvents : Type 0 where
  pub pokes : List BytePoke
  pub requests : List Request
  pub bytes : List ℕ

-- the outside once the events have come: the bytes that come in wait behind those that waited
abbrev pub behind : StepEvents → Outside → Outside
behind e o = record { ram = poked e.pokes o.ram; waiting = o.waiting ++ e.bytes; output = o.output; pending = marked e.requests o.pending }

-- one step: its events come, and then the machine acts
abbrev pub whole_step : ℕ → ℕ → StepEvents → WholeState → WholeState
whole_step windows pages e w = record {
  inner = result_of (action windows (ram_size pages) w.inner) (behind e w.outside);
  outside = after (action windows (ram_size pages) w.inner) (behind e w.outside);
}

-- what it touches; its events are no part of that
abbrev pub whole_touched : ℕ → ℕ → StepEvents → WholeState → List Touch
whole_touched windows pages e w = touches (action windows (ram_size pages) w.inner) (behind e w.outside)

-- the state after n steps, and what step n touches
abbrev pub whole_steps : ℕ → ℕ → (ℕ → StepEvents) → ℕ → WholeState → WholeState
whole_steps windows pages es zero w = w
whole_steps windows pages es (suc n) w = whole_step windows pages (es n) (whole_steps windows pages es n w)

abbrev pub touched_at : ℕ → ℕ → (ℕ → StepEvents) → ℕ → WholeState → List Touch
touched_at windows pages es n w = whole_touched windows pages (es n) (whole_steps windows pages es n w)

-- ---- the state of the machine is that state: it keeps the number of the bytes taken in place of those that wait

-- the events of step n of a timeline
abbrev pub events_of : Schedule → ℕ → StepEvents
events_of schedule n = record { pokes = pokes_of_step n schedule.pokes; requests = requests_of_step n schedule.requests; bytes = bytes_of_step n schedule.inputs }

-- the state at step n with the bytes that wait there
abbrev pub whole : Schedule → ℕ → State → WholeState
whole schedule n s = record { inner = inner_of s; outside = outside_of s.memory (arrived n schedule) }

-- no more bytes were taken than had come in
abbrev pub IsFed : Schedule → ℕ → State → Type 0
IsFed schedule n s = s.memory.taken ≤ length (arrived n schedule)

-- what is outside once the events of step n have come: RAM with its pokes, the bytes that waited and then those of the step, the pending levels with
-- the requests, and the output as it was
abbrev pub EventsCome : Type 0
EventsCome = (schedule : Schedule) (n : ℕ) (s : State) → IsTimeline schedule → IsFed schedule n s
    → outside_of (run.eventful schedule n s).memory (arrived (n + 1) schedule) ≡ behind (events_of schedule n) (outside_of s.memory (arrived n schedule))

-- a step of the machine is the step of the whole state, touches the same, and takes no more bytes than have come in
pub record StepIsWhole (windows pages : ℕ) (schedule : Schedule) (n : ℕ) (s : State) : Type 0 where
  pub state : whole schedule (n + 1) (run.step windows pages schedule n s) ≡ whole_step windows pages (events_of schedule n) (whole schedule n s)
  pub touched : run.footprint windows pages schedule n s ≡ whole_touched windows pages (events_of schedule n) (whole schedule n s)
  pub fed : IsFed schedule (n + 1) (run.step windows pages schedule n s)

abbrev pub StepsAreWhole : Type 0
StepsAreWhole = (windows pages : ℕ) (schedule : Schedule) (n : ℕ) (s : State) → IsTimeline schedule → IsFed schedule n s → StepIsWhole windows pages schedule n s

-- so the state before each step of a run from reset is what so many steps of the whole state lead to, and each step touches the same
pub record RunIsWhole (windows pages : ℕ) (source : Text) (schedule : Schedule) (n : ℕ) : Type 0 where
  pub state : whole schedule n (state_at windows pages source schedule n)
      ≡ whole_steps windows pages (events_of schedule) n (whole schedule 0 (reset_state windows pages source))
  pub touched : run.footprint windows pages schedule n (state_at windows pages source schedule n)
      ≡ touched_at windows pages (events_of schedule) n (whole schedule 0 (reset_state windows pages source))
  pub fed : IsFed schedule n (state_at windows pages source schedule n)

abbrev pub RunsAreWhole : Type 0
RunsAreWhole = (windows pages : ℕ) (source : Text) (schedule : Schedule) (n : ℕ) → IsTimeline schedule → RunIsWhole windows pages source schedule n

-- ---- states and events that differ in a set of cells

-- two states differ at most in the cells of a set
pub record AlikeStates (cells : Cells) (w w' : WholeState) : Type 0 where
  pub inner : w.inner ≡ w'.inner
  pub outside : Alike cells w.outside w'.outside

-- what events set a cell to, if they do: a byte that is poked, a level that is requested
abbrev pub set_to : Cell → StepEvents → Option Value
set_to c e = poke_of c (record { pokes = e.pokes; requests = e.requests; arrived = [] })

-- events differ at most in what they set cells of the set to, and in the bytes that come in where the waiting bytes are of the set
pub record AlikeEvents (cells : Cells) (e f : StepEvents) : Type 0 where
  pub set : (c : Cell) → cells c ≡ false → set_to c e ≡ set_to c f
  pub bytes : cells waiting_bytes ≡ false → e.bytes ≡ f.bytes

-- both events set a cell, and to the same
abbrev pub same_value : Value → Value → Bool
same_value (byte a) (byte b) = a == b
same_value (held true) (held true) = true
same_value (held false) (held false) = true
same_value v w = false

abbrev pub both_set : Option Value → Option Value → Bool
both_set (Some v) (Some w) = same_value v w
both_set o p = false

-- the set without the cells that both events set alike
abbrev pub unset : Cells → StepEvents → StepEvents → Cells
unset cells e f c = cells c && not (both_set (set_to c e) (set_to c f))

-- the set in which the states behind a step differ at most: without those set alike, and without those that the step wrote
abbrev pub left : ℕ → ℕ → Cells → StepEvents → StepEvents → WholeState → Cells
left windows pages cells e f w = remaining (unset cells e f) (whole_touched windows pages e w)

-- ---- THE FRAME LAW

-- a step that reads none of the cells, but for those that both events set alike, touches the same, and leads to states that differ at most in those
-- of the cells that it did not write and that were not set alike
pub record FramedStep (windows pages : ℕ) (cells : Cells) (e f : StepEvents) (w w' : WholeState) : Type 0 where
  pub touched : whole_touched windows pages e w ≡ whole_touched windows pages f w'
  pub states : AlikeStates (left windows pages cells e f w) (whole_step windows pages e w) (whole_step windows pages f w')

abbrev pub SetsFrame : Type 0
SetsFrame = (windows pages : ℕ) (cells : Cells) (e f : StepEvents) (w w' : WholeState) → AlikeStates cells w w' → AlikeEvents cells e f
    → Unread (unset cells e f) (whole_touched windows pages e w) → FramedStep windows pages cells e f w w'

-- one set is within another
abbrev pub IsWithin : Cells → Cells → Type 0
IsWithin cells others = (c : Cell) → others c ≡ false → cells c ≡ false

-- Two runs whose states and events before each step differ at most in a set of that step. The sets may shrink where a step writes a cell or both
-- events set it alike, and grow where events differ.
pub record AreSets (windows pages : ℕ) (sets : ℕ → Cells) (es fs : ℕ → StepEvents) (w : WholeState) (count : ℕ) : Type 0 where
  pub events : (n : ℕ) → n < count → AlikeEvents (sets n) (es n) (fs n)
  pub next : (n : ℕ) → n < count → IsWithin (left windows pages (sets n) (es n) (fs n) (whole_steps windows pages es n w)) (sets (n + 1))
  pub unread : (n : ℕ) → n < count → Unread (unset (sets n) (es n) (fs n)) (touched_at windows pages es n w)

-- any number of steps up to the first read
pub record FramedRun (windows pages : ℕ) (sets : ℕ → Cells) (es fs : ℕ → StepEvents) (w w' : WholeState) (count : ℕ) : Type 0 where
  pub states : (n : ℕ) → n ≤ count → AlikeStates (sets n) (whole_steps windows pages es n w) (whole_steps windows pages fs n w')
  pub touched : (n : ℕ) → n < count → touched_at windows pages es n w ≡ touched_at windows pages fs n w'

abbrev pub RunsFrame : Type 0
RunsFrame = (windows pages : ℕ) (sets : ℕ → Cells) (es fs : ℕ → StepEvents) (w w' : WholeState) (count : ℕ) → AlikeStates (sets 0) w w'
    → AreSets windows pages sets es fs w count → FramedRun windows pages sets es fs w w' count

-- a cell that a step does not touch holds behind it what its events left there
abbrev pub CellsStay : Type 0
CellsStay = (windows pages : ℕ) (e : StepEvents) (w : WholeState) (c : Cell) → IsSound (behind e w.outside)
    → is_read (whole_touched windows pages e w) c ≡ false → is_written (whole_touched windows pages e w) c ≡ false
    → get c (whole_step windows pages e w).outside ≡ get c (behind e w.outside)

-- ---- the same for bytes of RAM, for the waiting bytes, and for a level

-- bytes of RAM alone
abbrev pub bytes_in : (ℕ → Bool) → Cells
bytes_in bytes (ram_byte i) = bytes i
bytes_in bytes waiting_bytes = false
bytes_in bytes (pending_level l) = false

-- two runs that differ in bytes of RAM alone and in pokes of these, for any number of steps that read none of them but for those poked alike
abbrev pub BytesFrame : Type 0
BytesFrame = (windows pages : ℕ) (bytes : ℕ → Bool) (es fs : ℕ → StepEvents) (w w' : WholeState) (count : ℕ) → AlikeStates (bytes_in bytes) w w'
    → ((n : ℕ) → n < count → AlikeEvents (bytes_in bytes) (es n) (fs n))
    → ((n : ℕ) → n < count → Unread (unset (bytes_in bytes) (es n) (fs n)) (touched_at windows pages es n w))
    → FramedRun windows pages (λ n. bytes_in bytes) es fs w w' count

-- the waiting bytes alone
abbrev pub waiting_only : Cells
waiting_only (ram_byte i) = false
waiting_only waiting_bytes = true
waiting_only (pending_level l) = false

-- two runs that differ in the waiting bytes alone and in the bytes that come in, for any number of steps that neither take nor count them
abbrev pub WaitingFrames : Type 0
WaitingFrames = (windows pages : ℕ) (es fs : ℕ → StepEvents) (w w' : WholeState) (count : ℕ) → AlikeStates waiting_only w w'
    → ((n : ℕ) → n < count → ((es n).pokes ≡ (fs n).pokes) × ((es n).requests ≡ (fs n).requests))
    → ((n : ℕ) → n < count → reads_input (touched_at windows pages es n w) ≡ false)
    → FramedRun windows pages (λ n. waiting_only) es fs w w' count

-- the condition of a level alone
abbrev pub level_only : ℕ → Cells
level_only k (ram_byte i) = false
level_only k waiting_bytes = false
level_only k (pending_level l) = k == l

-- two runs that differ in the pending bit of a level alone and in its requests, for any number of steps that do not read it
abbrev pub LevelsFrame : Type 0
LevelsFrame = (windows pages level : ℕ) (es fs : ℕ → StepEvents) (w w' : WholeState) (count : ℕ) → AlikeStates (level_only level) w w'
    → ((n : ℕ) → n < count → AlikeEvents (level_only level) (es n) (fs n))
    → ((n : ℕ) → n < count → is_read (touched_at windows pages es n w) (pending_level level) ≡ false)
    → FramedRun windows pages (λ n. level_only level) es fs w w' count

-- and for any step at which the events of both request it, whatever the step reads: the states behind it are the same
abbrev pub RequestedLevelsAgree : Type 0
RequestedLevelsAgree = (windows pages level : ℕ) (e f : StepEvents) (w w' : WholeState) → AlikeStates (level_only level) w w' → AlikeEvents (level_only level) e f
    → set_to (pending_level level) e ≡ Some (held true) → set_to (pending_level level) f ≡ Some (held true)
    → (whole_touched windows pages e w ≡ whole_touched windows pages f w') × (whole_step windows pages e w ≡ whole_step windows pages f w')
