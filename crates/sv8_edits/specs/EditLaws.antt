-- WHY AN EDIT OF THE WORKBENCH IS AN EDIT OF THE RUN: the new source and timeline give the run that its changes make of the old one, and the changes are
-- planned as the theory of recorded runs asks.
use Rattle.std.specs.Prelude.{◌≡◌, ◌≢◌, true, ℕ, ◌+◌, ◌/◌, ◌%◌, ◌^◌, ◌<◌, ◌≤◌, List, [], length, Some, None, slice_index_or}
use Rattle.sv8_history.specs.Changes.{Change, IsEdited, ArePlanned}
use Rattle.sv8_history.specs.Input.{IsRefed}
use Rattle.sv8_time.specs.declared.edit.TimelineEdit.{TimelineEdit}
use Rattle.sv8_time.specs.declared.edit.TimelineEdit.TheVariants.{SetPoke, ClearPoke, SetPokeByte, ClearPokeByte, SetInput, ClearInput, SetRequest, ClearRequest}
use Rattle.sv8_time.specs.Edits.{timeline_fault, with_edit}
use Rattle.sv8_time.specs.Schedule.{Schedule, IsTimeline, has_request, bytes_of_step, with_poke_byte, with_poke, with_request, with_input}
use Rattle.sv8_phys.specs.Memory.{ram_size}
use Rattle.sv8_source.specs.Text.{Text}
use Rattle.sv8_source.specs.Image.{image_bytes}
use Rattle.sv8_time.specs.Schedule.{bytes_below}
use Rattle.sv8_cpu.specs.Recorded.{machine, AreEvents, IsSound}
use Rattle.sv8_reset.specs.Reset.{reset_state, state_at, run_of}
use Rattle.sv8_edits.specs.Changes.{poked_with, input_change, poke_byte_changes, poke_changes, request_changes, image_changes, RunChange, cells, input, edit_change}

-- a source and a timeline that a machine can run under
pub record CanRun (windows pages : ℕ) (source : Text) (s : Schedule) : Type 0 where
  pub few_pages : pages ≤ 65536
  pub timeline : IsTimeline s
  pub limit : s.limit ≡ ram_size pages
  pub events : AreEvents pages s
  pub sound : IsSound pages (reset_state windows pages source)

-- The changes are planned by the run of this source and timeline, with steps recorded up to the last one that may be, and make of it the run of another.
pub record Edits (windows pages : ℕ) (cs : List (Change (machine windows pages))) (source : Text) (s : Schedule) (source' : Text) (s' : Schedule) (can : CanRun windows pages source s) : Type 0 where
  pub events : AreEvents pages s'
  pub sound : IsSound pages (reset_state windows pages source')
  pub planned : (r : ℕ) → r ≤ 1000000 → ArePlanned (machine windows pages) (run_of windows pages source s can.events) r cs
  pub edited : IsEdited (machine windows pages) cs (run_of windows pages source s can.events) (run_of windows pages source' s' events)

-- An edit of the source changes each byte of RAM that has another value after reset; the new values are bytes.
abbrev pub ImageEdits : Type 0
ImageEdits = (windows pages : ℕ) (source source' : Text) (s : Schedule) (can : CanRun windows pages source s)
    → ((a : ℕ) → slice_index_or (image_bytes source' (ram_size pages)) a 0 < 256)
    → Edits windows pages (image_changes windows pages source source' s) source s source' s can

-- An edit of the input at a step changes what has come in from that step on.
pub record Refeeds (windows pages : ℕ) (step : ℕ) (source : Text) (s s' : Schedule) (can : CanRun windows pages source s) : Type 0 where
  pub events : AreEvents pages s'
  pub refed : IsRefed (machine windows pages) step (run_of windows pages source s can.events) (run_of windows pages source s' events)

-- THE EDIT OF A TIMELINE IS AN EDIT OF THE RUN: what it changes makes of the run that of the edited timeline. Input that stands already changes neither.
abbrev pub Makes : (windows pages : ℕ) → RunChange windows pages → (source : Text) (s : Schedule) (source' : Text) (s' : Schedule) → CanRun windows pages source s → Type 0
Makes windows pages (cells cs) source s source' s' can = Edits windows pages cs source s source' s' can
Makes windows pages (input None) source s source' s' can = (source' ≡ source) × (s' ≡ s)
Makes windows pages (input (Some step)) source s source' s' can = (source' ≡ source) × Refeeds windows pages step source s s' can

-- what it sets are bytes, and at least one comes in
abbrev pub HasBytes : TimelineEdit → Type 0
HasBytes (SetPoke step address value) = Unit {0}
HasBytes (ClearPoke step address) = Unit {0}
HasBytes (SetPokeByte step address value) = value < 256
HasBytes (ClearPokeByte step address) = Unit {0}
HasBytes (SetInput step bytes) = 0 < length bytes
HasBytes (ClearInput step) = Unit {0}
HasBytes (SetRequest step level) = Unit {0}
HasBytes (ClearRequest step level) = Unit {0}

abbrev pub TimelineEdits : Type 0
TimelineEdits = (windows pages : ℕ) (source : Text) (s : Schedule) (can : CanRun windows pages source s) (edit : TimelineEdit) → HasBytes edit
    → timeline_fault edit s ≡ None → Makes windows pages (edit_change windows pages edit s) source s source (with_edit edit s) can

-- SETTING WHAT STANDS changes nothing: the timeline stays as it is, and no cell and no input is changed. So with a byte, a word, a level and the bytes
-- that come in.
abbrev pub StandingBytes : Type 0
StandingBytes = (windows pages : ℕ) (s : Schedule) → IsTimeline s → (step address value : ℕ) → poked_with step address s ≡ Some value
    → (with_poke_byte step address value s ≡ s) × (poke_byte_changes windows pages step address value s ≡ [])

abbrev pub StandingWords : Type 0
StandingWords = (windows pages : ℕ) (s : Schedule) → IsTimeline s → (step address value : ℕ)
    → poked_with step address s ≡ Some (value / 2 ^ 24 % 2 ^ 8) → poked_with step (address + 1) s ≡ Some (value / 2 ^ 16 % 2 ^ 8)
    → poked_with step (address + 2) s ≡ Some (value / 2 ^ 8 % 2 ^ 8) → poked_with step (address + 3) s ≡ Some (value % 2 ^ 8)
    → (with_poke step address value s ≡ s) × (poke_changes windows pages step address value s ≡ [])

abbrev pub StandingRequests : Type 0
StandingRequests = (windows pages : ℕ) (s : Schedule) → IsTimeline s → (step level : ℕ) → has_request step level s.requests ≡ true
    → (with_request step level s ≡ s) × (request_changes windows pages step level s ≡ [])

abbrev pub StandingInputs : Type 0
StandingInputs = (s : Schedule) → IsTimeline s → (step : ℕ) (bytes : List ℕ) → 0 < length bytes → bytes_of_step step s.inputs ≡ bytes
    → (with_input step bytes s ≡ s) × (input_change step bytes s ≡ None)

-- .. and the source, where its image stays
abbrev pub StandingSources : Type 0
StandingSources = (windows pages : ℕ) (source source' : Text) (s : Schedule) → image_bytes source (ram_size pages) ≡ image_bytes source' (ram_size pages)
    → image_changes windows pages source source' s ≡ []

-- Bytes that do not stand at a step are a change from that step on.
abbrev pub OtherInputs : Type 0
OtherInputs = (s : Schedule) (step : ℕ) (bytes : List ℕ) → bytes_of_step step s.inputs ≢ bytes → input_change step bytes s ≡ Some step

-- No state of a run has taken more of the console's bytes than have come in by then.
abbrev pub StatesAreFed : Type 0
StatesAreFed = (windows pages : ℕ) (source : Text) (s : Schedule) (n : ℕ) → (state_at windows pages source s n).memory.taken ≤ bytes_below n s.inputs
