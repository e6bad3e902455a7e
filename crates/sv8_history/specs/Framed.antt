-- What a machine owes: the laws of cells and events, and the frame law of one cell.
use Rattle.std.specs.Prelude.{◌≡◌, true, false, cond, Some, unwrap_or}
use Rattle.sv8_history.specs.Machine.{SameFootprint, Machine}

-- A cell holds what was put there last, to put something changes no other cell, and steps keep the cells.
pub record AreCells (m : Machine) : Type 0 where
  pub same_is : (a b : m.Cell) → m.same a b ≡ true → a ≡ b
  pub put-get : (a : m.Cell) (s : m.State) → m.put a (m.get a s) s ≡ s
  pub put-put : (a : m.Cell) (v w : m.Value) (s : m.State) → m.put a v (m.put a w s) ≡ m.put a v s
  pub get-put : (a : m.Cell) (v : m.Value) (s : m.State) → m.Has a s → m.Fits a v → m.get a (m.put a v s) ≡ v
  pub get-put_other : (a b : m.Cell) (v : m.Value) (s : m.State) → m.same a b ≡ false → m.get b (m.put a v s) ≡ m.get b s
  pub get_fits : (a : m.Cell) (s : m.State) → m.Has a s → m.Fits a (m.get a s)
  pub sound_step : (e : m.Event) (s : m.State) → m.Valid e → m.Sound s → m.Sound (m.step e s)
  pub has_step : (a : m.Cell) (e : m.Event) (s : m.State) → m.Valid e → m.Has a s → m.Has a (m.step e s)
  pub has_put : (a b : m.Cell) (v : m.Value) (s : m.State) → m.Has a s → m.Has b s → m.Fits b v → m.Has a (m.put b v s)

-- Events that differ in one cell at most set all others alike; those that differ in the input set all cells alike.
pub record AreEvents (m : Machine) : Type 0 where
  pub alike_self : (a : m.Cell) (e : m.Event) → m.AlikeBut a e e
  pub alike_back : (a : m.Cell) (e f : m.Event) → m.AlikeBut a e f → m.AlikeBut a f e
  pub poke_fits : (a : m.Cell) (v : m.Value) (e : m.Event) → m.Valid e → m.poke a e ≡ Some v → m.Fits a v
  pub alike_poke : (a b : m.Cell) (e f : m.Event) → m.AlikeBut a e f → m.same a b ≡ false → m.poke b f ≡ m.poke b e
  pub input_back : (e f : m.Event) → m.AlikeInput e f → m.AlikeInput f e
  pub input_poke : (a : m.Cell) (e f : m.Event) → m.AlikeInput e f → m.poke a f ≡ m.poke a e

-- THE FRAME LAW. It also says what stands in a cell that was not written: what was poked there, or else what it had.
pub record IsFramed (m : Machine) : Type 0 where
  pub cells : AreCells m
  pub events : AreEvents m
  -- A step that does not read the cell, of two states and two events that differ there alone: what it makes differs there alone, and not even there
  -- where the step wrote it.
  pub quiet : (a : m.Cell) (v : m.Value) (e f : m.Event) (s : m.State) → m.Valid e → m.Valid f → m.Has a s → m.Fits a v → m.AlikeBut a e f → (m.footprint e s).reads a ≡ false
      → m.step f (m.put a v s) ≡ cond ((m.footprint e s).writes a) (m.step e s) (m.put a (unwrap_or (m.poke a f) v) (m.step e s))
  pub quiet_footprint : (a : m.Cell) (v : m.Value) (e f : m.Event) (s : m.State) → m.Valid e → m.Valid f → m.Has a s → m.Fits a v → m.AlikeBut a e f → (m.footprint e s).reads a ≡ false
      → SameFootprint (m.footprint f (m.put a v s)) (m.footprint e s)
  -- a step whose event sets the cell, whatever stood there and whatever the step reads
  pub alike : (a : m.Cell) (w v : m.Value) (e : m.Event) (s : m.State) → m.Valid e → m.Has a s → m.Fits a v → m.poke a e ≡ Some w
      → m.step e (m.put a v s) ≡ m.step e s
  pub alike_footprint : (a : m.Cell) (w v : m.Value) (e : m.Event) (s : m.State) → m.Valid e → m.Has a s → m.Fits a v → m.poke a e ≡ Some w
      → SameFootprint (m.footprint e (m.put a v s)) (m.footprint e s)
  -- a step that takes no input, of two events that differ there alone
  pub input : (e f : m.Event) (s : m.State) → m.Valid e → m.Valid f → m.Sound s → m.AlikeInput e f → (m.footprint e s).takes ≡ false → m.step f s ≡ m.step e s
  pub input_footprint : (e f : m.Event) (s : m.State) → m.Valid e → m.Valid f → m.Sound s → m.AlikeInput e f → (m.footprint e s).takes ≡ false
      → SameFootprint (m.footprint f s) (m.footprint e s)
