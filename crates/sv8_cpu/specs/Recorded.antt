-- The machine as the theory of recorded runs sees it (sv8_history): its cells, what comes from outside in one step, and what a step reads and writes.
-- A cell is a byte of RAM or the condition of an interrupt level. The bytes that wait at the console are none: the state has the number of those that
-- were taken, and each event has all that came in so far.
use Rattle.std.specs.Prelude.{◌≡◌, ℕ, ◌+◌, ◌<◌, ◌≤◌, ◌==◌, Bool, true, false, List, [], ◌∷◌, Option, Some, None, option_map, if◌then◌else◌}
use Rattle.std.specs.List.{list_any}
use Rattle.sv8_model.specs.declared.touch.Touch.{Touch}
use Rattle.sv8_model.specs.Outside.{Outside}
use Rattle.sv8_model.specs.Cells as cells
use Rattle.sv8_model.specs.Cells.{Cell, ram_byte, waiting_bytes, pending_level, Value, byte, held, same_cell, Fits, is_read, is_written, is_data}
use Rattle.sv8_model.specs.Footprint.{reads_input}
use Rattle.sv8_history.specs.Machine.{Footprint, Machine}
use Rattle.sv8_history.specs.Acting.{Acting}
use Rattle.sv8_time.specs.Order.{Each}
use Rattle.sv8_time.specs.Schedule.{Schedule, arrived, BytePoke, pokes_of_step, requests_of_step}
use Rattle.sv8_time.specs.declared.requests.Request.{Request}
use Rattle.sv8_phys.specs.Memory.{ram_size}
use Rattle.sv8_phys.specs.Contents.{AreContents, outside_of}
use Rattle.sv8_memory.specs.Events.{poked, marked}
use Rattle.sv8_cpu.specs.State.{State}
use Rattle.sv8_cpu.specs.Run.{step_action, acted_on, touched}

-- ---- events

-- what comes from outside in one step: poked bytes, requested levels, and all bytes that came in at the console up to this step
pub record Event : Type 0 where
  pub pokes : List BytePoke
  pub requests : List Request
  pub arrived : List ℕ

-- the event of step n in a timeline
abbrev pub event_at : Schedule → ℕ → Event
event_at schedule n = record { pokes = pokes_of_step n schedule.pokes; requests = requests_of_step n schedule.requests; arrived = arrived (n + 1) schedule }

-- pokes are of bytes of RAM, requests of levels 1 to 15
abbrev pub IsPoke : ℕ → BytePoke → Type 0
IsPoke pages p = (p.address < ram_size pages) × (p.value < 256)

abbrev pub IsRequest : Request → Type 0
IsRequest r = (1 ≤ r.level) × (r.level ≤ 15)

pub record IsEvent (pages : ℕ) (e : Event) : Type 0 where
  pub pokes : Each (IsPoke pages) e.pokes
  pub requests : Each IsRequest e.requests

-- what a byte is poked with, if it is; of several pokes the last one counts
abbrev pub value_poked : ℕ → List BytePoke → Option ℕ → Option ℕ
value_poked address [] found = found
value_poked address (p ∷ ps) found = value_poked address ps (if p.address == address then Some p.value else found)

-- what an event sets a cell to, if it does
abbrev pub poke_of : Cell → Event → Option Value
poke_of (ram_byte i) e = option_map byte (value_poked i e.pokes None)
poke_of waiting_bytes e = None
poke_of (pending_level l) e = if list_any (λ r. r.level == l) e.requests then Some (held true) else None

-- events differ at most in what they set a cell to
pub record AlikeBut (c : Cell) (e f : Event) : Type 0 where
  pub others : (d : Cell) → same_cell c d ≡ false → poke_of d f ≡ poke_of d e
  pub arrived : f.arrived ≡ e.arrived

-- events differ at most in the bytes that came in
pub record AlikeInput (e f : Event) : Type 0 where
  pub pokes : f.pokes ≡ e.pokes
  pub requests : f.requests ≡ e.requests

-- ---- states

-- the cells of a state
abbrev pub cells_of : State → Outside
cells_of s = outside_of s.memory []

-- the state with other cells
abbrev pub with_cells : State → Outside → State
with_cells s o = record s { memory = record s.memory { ram = o.ram; pending = o.pending } }

abbrev pub get : Cell → State → Value
get c s = cells.get c (cells_of s)

abbrev pub put : Cell → Value → State → State
put c v s = with_cells s (cells.put c v (cells_of s))

abbrev pub IsSound : ℕ → State → Type 0
IsSound pages s = AreContents pages s.memory

-- the state has the cell, and is sound
abbrev pub Holds : Cell → State → Type 0
Holds (ram_byte i) s = cells.Has (ram_byte i) (cells_of s)
Holds waiting_bytes s = ⊥
Holds (pending_level l) s = cells.Has (pending_level l) (cells_of s)

abbrev pub Has : ℕ → Cell → State → Type 0
Has pages c s = IsSound pages s × Holds c s

-- ---- a step: its event comes, and then the machine acts

pub record Ready : Type 0 where
  pub state : State
  pub arrived : List ℕ

abbrev pub come : Event → State → Ready
come e s = record {
  state = record s { memory = record s.memory { ram = poked e.pokes s.memory.ram; pending = marked e.requests s.memory.pending } };
  arrived = e.arrived;
}

abbrev pub act : ℕ → ℕ → Ready → State
act windows pages r = acted_on r.arrived r.state (step_action windows pages r.state)

-- a footprint from what was touched
abbrev pub footprint_of : List Touch → Footprint Cell
footprint_of ts = record { reads = is_read ts; writes = is_written ts; uses = is_data ts; takes = reads_input ts }

abbrev pub footprint_of_act : ℕ → ℕ → Ready → Footprint Cell
footprint_of_act windows pages r = footprint_of (touched windows pages r.arrived r.state)

-- a level that the timer makes pending goes on being looked for
abbrev pub ends_search : Cell → Bool
ends_search (ram_byte i) = true
ends_search waiting_bytes = false
ends_search (pending_level l) = false

abbrev pub machine : ℕ → ℕ → Machine
machine windows pages = record {
  State = State;
  Event = Event;
  Valid = IsEvent pages;
  Cell = Cell;
  Value = Value;
  same = same_cell;
  Fits = Fits;
  get = get;
  put = put;
  Sound = IsSound pages;
  Has = Has pages;
  poke = poke_of;
  AlikeBut = AlikeBut;
  AlikeInput = AlikeInput;
  step = λ e s. act windows pages (come e s);
  footprint = λ e s. footprint_of_act windows pages (come e s);
  ends_search = ends_search;
}

-- the two parts of its step
abbrev pub acting : ℕ → ℕ → Acting
acting windows pages = record {
  machine = machine windows pages;
  Ready = Ready;
  come = come;
  act = act windows pages;
  footprint = footprint_of_act windows pages;
  put = λ c v r. record r { state = put c v r.state };
  Waiting = List ℕ;
  wait = λ bytes r. record r { arrived = bytes };
  Sound = λ r. IsSound pages r.state;
  Has = λ c r. Has pages c r.state;
}

-- ---- timelines

-- every event of a timeline is one
abbrev pub AreEvents : ℕ → Schedule → Type 0
AreEvents pages schedule = (n : ℕ) → IsEvent pages (event_at schedule n)
