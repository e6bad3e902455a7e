-- What edits, cuts and queries keep, for any machine that meets the frame law.
use Rattle.std.specs.Prelude.{List, ◌≡◌, ℕ, suc, ◌+◌, ◌-◌, ◌*◌, ◌/◌, ◌<◌, ◌≤◌, false, min, max}
use Rattle.sv8_history.specs.Machine.{SameFootprint, Machine, Run, state_at, footprint_at}
use Rattle.sv8_history.specs.Framed.{IsFramed}
use Rattle.sv8_history.specs.Trace.{Trace, IsTraceOf, Agrees}
use Rattle.sv8_history.specs.Growing.{new_trace, extended, steps_from, restored}
use Rattle.sv8_history.specs.Changes.{Change, IsChanged, IsEdited, IsPlanned, ArePlanned, with_changes}
use Rattle.sv8_history.specs.Reads.{reads_change, reads_edit, IsFirstRead, first_of_edit, first_of_each, WordChanges, AreWords, all_changes, by_words}
use Rattle.sv8_history.specs.Patches.{cut, patch, edited}
use Rattle.sv8_history.specs.Input.{IsRefed, takes_edit, IsFirstTake, edited_input, IsFed, AreDelivered}

-- the steps before `r` have one footprint in both runs
abbrev pub SameFootprints : (m : Machine) → Run m → Run m → ℕ → Type 0
SameFootprints m old new r = (n : ℕ) → n < r → SameFootprint (footprint_at m new n) (footprint_at m old n)

-- ---- edits of cells

-- WHY AN UNREAD EDIT KEEPS A RUN (in words at the head of Changes): up to the first read each state is the old one with the changes that it shows, and
-- each step has the footprint that it had.
abbrev pub UnreadAgrees : Machine → Type 0
UnreadAgrees m =
    IsFramed m → (old new : Run m) (cs : List (Change m)) (r : ℕ) → ArePlanned m old r cs → IsEdited m cs old new
    → ((n : ℕ) → n < r → reads_edit m (footprint_at m old) cs n ≡ false)
    → ((n : ℕ) → n ≤ r → state_at m new n ≡ with_changes m old cs n (state_at m old n)) × SameFootprints m old new r

-- The first read of an edit is the same by the run before it and by the run after it. (Those of its single changes may move.)
abbrev pub FirstReadStays : Machine → Type 0
FirstReadStays m =
    IsFramed m → (old new : Run m) (cs : List (Change m)) (s : ℕ) → ArePlanned m old (suc s) cs → IsEdited m cs old new
    → (IsFirstRead m old cs s → IsFirstRead m new cs s) × (IsFirstRead m new cs s → IsFirstRead m old cs s)

-- The number of checkpoints above step 0 after an edit: what stays recorded is the smaller of what was and of the last checkpoint not above the first
-- read. All of it stays where there is no first read.
pub record IsRightCount (k old new : ℕ) (IsFirst : ℕ → Type 0) : Type 0 where
  pub fewer : new ≤ old
  pub at_first : (s : ℕ) → IsFirst s → k * new ≡ min (k * old) (k * (s / k))
  pub without : ((s : ℕ) → IsFirst s → ⊥) → new ≡ old

-- HOW MUCH OF THE RECORD AN EDIT LEAVES, by the first read of the whole run, though the search goes no further than the notes.
abbrev pub EditCounts : Machine → Type 0
EditCounts m =
    (k : ℕ) → 0 < k → (run : Run m) (trace : Trace m) (cs : List (Change m)) → IsTraceOf m k run trace
    → IsRightCount k trace.count (edited m k trace cs).count (IsFirstRead m run cs)

-- AN EDIT KEEPS THE RECORDED RUN: the trace, cut by the first read and then patched, is that of the edited run.
abbrev pub EditKeeps : Machine → Type 0
EditKeeps m =
    IsFramed m → (k : ℕ) → 0 < k → (old new : Run m) (trace : Trace m) (cs : List (Change m)) → IsTraceOf m k old trace
    → ArePlanned m old (k * trace.count) cs → IsEdited m cs old new → IsTraceOf m k new (edited m k trace cs)

-- one patch, where no recorded step reads the change
abbrev pub PatchKeeps : Machine → Type 0
PatchKeeps m =
    IsFramed m → (k : ℕ) → 0 < k → (old new : Run m) (trace : Trace m) (c : Change m) → IsTraceOf m k old trace
    → IsPlanned m old (k * trace.count) c → IsChanged m c old new
    → ((n : ℕ) → n < k * trace.count → reads_change m trace.notes c n ≡ false) → IsTraceOf m k new (patch m k trace c)

-- The first read of an edit is the least of its changes' first reads.
abbrev pub FirstOfEach : Machine → Type 0
FirstOfEach m = (k : ℕ) (trace : Trace m) (cs : List (Change m)) → first_of_edit m k trace cs ≡ first_of_each m k trace cs

-- Of changes within one word one search is enough, up to where the last of them ends; so an edit takes one search a word.
abbrev pub SearchByWords : Machine → Type 0
SearchByWords m =
    (k : ℕ) (run : Run m) (trace : Trace m) (ws : List (WordChanges m)) → IsTraceOf m k run trace → AreWords m ws
    → first_of_edit m k trace (all_changes m ws) ≡ first_of_each m k trace (by_words m ws)

-- ---- edits of the input

abbrev pub InputEditKeeps : Machine → Type 0
InputEditKeeps m =
    IsFramed m → (k : ℕ) → 0 < k → (old new : Run m) (trace : Trace m) (t : ℕ) → IsTraceOf m k old trace → IsRefed m t old new
    → IsTraceOf m k new (edited_input m k trace t)

abbrev pub InputEditCounts : Machine → Type 0
InputEditCounts m =
    (k : ℕ) → 0 < k → (run : Run m) (trace : Trace m) (t : ℕ) → IsTraceOf m k run trace
    → IsRightCount k trace.count (edited_input m k trace t).count (IsFirstTake m run t)

-- the runs are one up to the first step that takes input
abbrev pub UntakenAgrees : Machine → Type 0
UntakenAgrees m =
    IsFramed m → (old new : Run m) (t r : ℕ) → IsRefed m t old new → ((n : ℕ) → n < r → takes_edit m (footprint_at m old) t n ≡ false)
    → ((n : ℕ) → n ≤ r → state_at m new n ≡ state_at m old n) × SameFootprints m old new r

-- .. which is the same before and after the edit
abbrev pub FirstTakeStays : Machine → Type 0
FirstTakeStays m =
    IsFramed m → (old new : Run m) (t s : ℕ) → IsRefed m t old new
    → (IsFirstTake m old t s → IsFirstTake m new t s) × (IsFirstTake m new t s → IsFirstTake m old t s)

-- The states that an edit of the input leaves have taken no more bytes than are delivered by then, where that was so before.
abbrev pub InputEditFeeds : Machine → Type 0
InputEditFeeds m =
    IsFramed m → (old new : Run m) (t r : ℕ) → IsRefed m t old new → ((n : ℕ) → n < r → takes_edit m (footprint_at m old) t n ≡ false)
    → (taken : m.State → ℕ) (delivered redelivered : ℕ → ℕ) → IsFed m old taken delivered → AreDelivered t delivered redelivered
    → (n : ℕ) → n ≤ r → taken (state_at m new n) ≤ redelivered n

-- ---- traces and queries

abbrev pub CutKeeps : Machine → Type 0
CutKeeps m =
    (k : ℕ) → (run : Run m) (trace : Trace m) (count : ℕ) → count ≤ trace.count → IsTraceOf m k run trace
    → IsTraceOf m k run (cut m k trace count)

-- Events from the last checkpoint on change nothing, nor does an edit that sets what stands already.
abbrev pub LaterKeeps : Machine → Type 0
LaterKeeps m =
    (k : ℕ) → 0 < k → (old new : Run m) (trace : Trace m) → IsTraceOf m k old trace → new.start ≡ old.start
    → ((n : ℕ) → n < k * trace.count → new.events n ≡ old.events n) → IsTraceOf m k new trace

-- A trace that shows the same where it counts is as good.
abbrev pub AgreesKeeps : Machine → Type 0
AgreesKeeps m = (k : ℕ) (run : Run m) (trace other : Trace m) → Agrees m k trace other → IsTraceOf m k run trace → IsTraceOf m k run other

-- a new trace, and one that is extended by the next k steps
abbrev pub NewTrace : Machine → Type 0
NewTrace m = (k : ℕ) (run : Run m) → IsTraceOf m k run (new_trace m run.start)

abbrev pub ExtendKeeps : Machine → Type 0
ExtendKeeps m = (k : ℕ) → 0 < k → (run : Run m) (trace : Trace m) → IsTraceOf m k run trace → IsTraceOf m k run (extended m k run trace)

-- A query of any step: from the last recorded checkpoint that is not above it the steps lead to its state.
abbrev pub RestoreGives : Machine → Type 0
RestoreGives m =
    (k : ℕ) → 0 < k → (run : Run m) (trace : Trace m) (n : ℕ) → IsTraceOf m k run trace
    → steps_from m run (restored k trace.count n) (trace.point (restored k trace.count n)) (n - restored k trace.count n) ≡ state_at m run n

-- How many steps a query makes that first extends the trace by k steps for each checkpoint that is missing, and then goes on from the last one: as
-- many as from the checkpoint that it had. What is recorded then is the greater of what was and of the last checkpoint not above the step.
abbrev pub QueryWork : Type 0
QueryWork = (k count n : ℕ)
    → (k * (n / k - count) + (n - restored k (count + (n / k - count)) n) ≡ n - restored k count n) × (count + (n / k - count) ≡ max count (n / k))
