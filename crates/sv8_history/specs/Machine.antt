-- A machine, as a recorded run sees it: states, events from outside, and cells, which are the parts of a state that events may set. Runs of it.
use Rattle.std.specs.Prelude.{◌≡◌, ℕ, zero, suc, Bool, ◌||◌, Option}

-- The footprint of a step: the cells that it reads, those that it sets whatever stood there, those that are its data, and whether it takes input.
pub record Footprint (Cell : Type 0) : Type 0 where
  -- A byte of RAM is read and written with its word. A level is read where the step asks for it or changes it by program.
  pub reads : Cell → Bool
  -- A level is written where the timer expires.
  pub writes : Cell → Bool
  -- The cells that are the step's data. What that means is the machine's; the laws ask only that it is the same in runs that are alike.
  pub uses : Cell → Bool
  -- the step takes or counts the bytes that wait at the console
  pub takes : Bool

-- the footprints are the same
pub record SameFootprint {Cell : Type 0} (x y : Footprint Cell) : Type 0 where
  pub reads : (a : Cell) → x.reads a ≡ y.reads a
  pub writes : (a : Cell) → x.writes a ≡ y.writes a
  pub uses : (a : Cell) → x.uses a ≡ y.uses a
  pub takes : x.takes ≡ y.takes

-- A cell is a byte of RAM or the condition of an interrupt level. The bytes that wait at the console are no cell: a state has only the number of
-- those that were taken, and each event has all that were delivered so far.
pub record Machine : Type 1 where
  pub State : Type 0
  -- what comes from outside in one step, and what holds of it: a poked byte is below 256, a requested level is one
  pub Event : Type 0
  pub Valid : Event → Type 0
  pub Cell : Type 0
  -- what stands in a cell: a number in a byte, pending or not in a level
  pub Value : Type 0
  pub same : Cell → Cell → Bool
  -- the cell can hold the value
  pub Fits : Cell → Value → Type 0
  -- what stands in the cell, and the state with another value there
  pub get : Cell → State → Value
  pub put : Cell → Value → State → State
  -- what holds of every state of a run, as far as the frame law needs that
  pub Sound : State → Type 0
  -- the state has the cell, and is sound
  pub Has : Cell → State → Type 0
  -- what the event sets the cell to, if it does: a poked byte, or "pending" for a level that is requested
  pub poke : Cell → Event → Option Value
  -- the events differ at most in what they set the cell to
  pub AlikeBut : Cell → Event → Event → Type 0
  -- the events differ at most in the bytes that were delivered to the console
  pub AlikeInput : Event → Event → Type 0
  pub step : Event → State → State
  pub footprint : Event → State → Footprint Cell
  -- A write of the cell ends the search for the first read of a change. It does for a byte, since the change is gone. For a level the search goes
  -- on: a timer that expires is not taken as the end of a request.
  pub ends_search : Cell → Bool

-- ---- runs

-- a run: its first state, and the event of each step
pub record Run (m : Machine) : Type 0 where
  pub start : m.State
  pub events : ℕ → m.Event
  pub valid : (n : ℕ) → m.Valid (events n)

-- the state before step n and its event
abbrev pub state_at : (m : Machine) → Run m → ℕ → m.State
state_at m run zero = run.start
state_at m run (suc n) = m.step (run.events n) (state_at m run n)

-- the footprint of step n
abbrev pub footprint_at : (m : Machine) → Run m → ℕ → Footprint m.Cell
footprint_at m run n = m.footprint (run.events n) (state_at m run n)

-- ---- notes

-- a note is the footprint of a step
abbrev pub Notes : Machine → Type 0
Notes m = ℕ → Footprint m.Cell

-- step n reads the cell, writes it, does either, by the notes
abbrev pub reads_of : (m : Machine) → Notes m → m.Cell → ℕ → Bool
reads_of m notes a n = (notes n).reads a

abbrev pub writes_of : (m : Machine) → Notes m → m.Cell → ℕ → Bool
writes_of m notes a n = (notes n).writes a

abbrev pub touches_of : (m : Machine) → Notes m → m.Cell → ℕ → Bool
touches_of m notes a n = (notes n).reads a || (notes n).writes a
