-- A machine whose step lets the event come, and then acts. Where these two parts obey a law each, the machine obeys the frame law.
use Rattle.std.specs.Prelude.{◌≡◌, false, cond, unwrap_or}
use Rattle.sv8_history.specs.Machine.{Footprint, SameFootprint, Machine}
use Rattle.sv8_history.specs.Framed.{AreCells, AreEvents, IsFramed}

pub record Acting : Type 1 where
  pub machine : Machine
  -- a state to which the event of its step has come: pokes and requests are made, and the delivered bytes wait
  pub Ready : Type 0
  pub come : machine.Event → machine.State → Ready
  -- the rest of the step, and its footprint
  pub act : Ready → machine.State
  pub footprint : Ready → Footprint machine.Cell
  -- the same with another value in a cell, or with other bytes waiting
  pub put : machine.Cell → machine.Value → Ready → Ready
  pub Waiting : Type 0
  pub wait : Waiting → Ready → Ready
  -- it is sound, and it has the cell and is sound
  pub Sound : Ready → Type 0
  pub Has : machine.Cell → Ready → Type 0

pub record IsActing (p : Acting) : Type 0 where
  -- a step is its two parts
  pub step_is : (e : p.machine.Event) (s : p.machine.State) → p.machine.step e s ≡ p.act (p.come e s)
  pub footprint_is : (e : p.machine.Event) (s : p.machine.State) → p.machine.footprint e s ≡ p.footprint (p.come e s)
  pub sound_come : (e : p.machine.Event) (s : p.machine.State) → p.machine.Valid e → p.machine.Sound s → p.Sound (p.come e s)
  pub has_come : (a : p.machine.Cell) (e : p.machine.Event) (s : p.machine.State) → p.machine.Valid e → p.machine.Has a s → p.Has a (p.come e s)
  -- THE EVENT: what came of two states and two events that differ in one cell differs there alone. It holds what was poked, or else what it had.
  pub comes : (a : p.machine.Cell) (v : p.machine.Value) (e f : p.machine.Event) (s : p.machine.State) → p.machine.Valid e → p.machine.Valid f → p.machine.Has a s → p.machine.Fits a v
      → p.machine.AlikeBut a e f → p.come f (p.machine.put a v s) ≡ p.put a (unwrap_or (p.machine.poke a f) v) (p.come e s)
  -- events that differ in the input leave other bytes waiting, and nothing else
  pub delivers : (e f : p.machine.Event) (s : p.machine.State) → p.machine.Valid e → p.machine.Valid f → p.machine.AlikeInput e f
      → (w : p.Waiting) × (p.come f s ≡ p.wait w (p.come e s))
  -- THE ACT, where it does not read the cell: what it makes differs there alone, and not even there where it wrote it
  pub quiet : (a : p.machine.Cell) (v : p.machine.Value) (r : p.Ready) → p.Has a r → p.machine.Fits a v → (p.footprint r).reads a ≡ false
      → p.act (p.put a v r) ≡ cond ((p.footprint r).writes a) (p.act r) (p.machine.put a v (p.act r))
  pub quiet_footprint : (a : p.machine.Cell) (v : p.machine.Value) (r : p.Ready) → p.Has a r → p.machine.Fits a v → (p.footprint r).reads a ≡ false
      → SameFootprint (p.footprint (p.put a v r)) (p.footprint r)
  -- .. and where it takes no input
  pub untaken : (w : p.Waiting) (r : p.Ready) → p.Sound r → (p.footprint r).takes ≡ false → p.act (p.wait w r) ≡ p.act r
  pub untaken_footprint : (w : p.Waiting) (r : p.Ready) → p.Sound r → (p.footprint r).takes ≡ false → SameFootprint (p.footprint (p.wait w r)) (p.footprint r)

abbrev pub ActingFrames : Acting → Type 0
ActingFrames p = AreCells p.machine → AreEvents p.machine → IsActing p → IsFramed p.machine
