-- Edits of the input: bytes delivered to the console from some step on. They change no checkpoint that stays, since a state has only the number of
-- bytes that were taken.
use Rattle.std.specs.Prelude.{◌≡◌, ℕ, suc, ◌*◌, ◌<◌, ◌≤◌, Bool, false, ◌&&◌, leb, Option}
use Rattle.sv8_history.specs.Machine.{Machine, Run, state_at, footprint_at, Notes}
use Rattle.sv8_history.specs.Trace.{Trace}
use Rattle.sv8_history.specs.Reads.{IsLeast, least_below}
use Rattle.sv8_history.specs.Patches.{count_after, cut}

-- The input is edited at step `t`. The events of later steps may differ too, in all that was delivered so far.
pub record IsRefed (m : Machine) (t : ℕ) (old new : Run m) : Type 0 where
  pub sound : m.Sound old.start
  pub start : new.start ≡ old.start
  pub before : (n : ℕ) → n < t → new.events n ≡ old.events n
  pub alike : (n : ℕ) → m.AlikeInput (old.events n) (new.events n)

-- step `n` takes input that the edit may have changed
abbrev pub takes_edit : (m : Machine) → Notes m → ℕ → ℕ → Bool
takes_edit m notes t n = leb t n && (notes n).takes

-- the first that does, by the run, and by the notes of a trace
abbrev pub IsFirstTake : (m : Machine) → Run m → ℕ → ℕ → Type 0
IsFirstTake m run t s = IsLeast (takes_edit m (footprint_at m run) t) s

abbrev pub first_take : (m : Machine) → ℕ → Trace m → ℕ → Option ℕ
first_take m k trace t = least_below (k * trace.count) (takes_edit m trace.notes t)

-- THE EDIT: the trace is cut by the first step that takes input, and nothing is patched.
abbrev pub edited_input : (m : Machine) → ℕ → Trace m → ℕ → Trace m
edited_input m k trace t = cut m k trace (count_after k trace.count (first_take m k trace t))

-- No state of the run has taken more bytes than are delivered by then. A step takes none but by its footprint, and none are taken back that were delivered.
pub record IsFed (m : Machine) (run : Run m) (taken : m.State → ℕ) (delivered : ℕ → ℕ) : Type 0 where
  pub kept : (n : ℕ) → (footprint_at m run n).takes ≡ false → taken (state_at m run (suc n)) ≡ taken (state_at m run n)
  pub enough : (n : ℕ) → taken (state_at m run n) ≤ delivered n

-- the numbers of bytes delivered before each step of an edited input
pub record AreDelivered (t : ℕ) (old new : ℕ → ℕ) : Type 0 where
  pub same : (n : ℕ) → n ≤ t → new n ≡ old n
  pub rising : (n : ℕ) → new n ≤ new (suc n)
