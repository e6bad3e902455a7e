-- Changes of past inputs, one cell at a time, and the runs before and after them.
--
-- WHY A RUN NEED NOT BE MADE AGAIN where no step reads what was changed. The change sits in one cell. A step that does not read the cell does the same
-- whatever stands there; it leaves the change where it was, or writes over it, and from then on the two runs are one. Where an event sets the cell
-- anyway, in both runs alike, they are one again too, whatever that step reads. So up to the first read each state of the new run is that of the old one
-- with the new value put where it still shows, and every footprint stays.
use Rattle.std.specs.Prelude.{◌≡◌, List, [], ◌∷◌, ℕ, suc, ◌<◌, ◌≤◌, Bool, true, false, not, ◌&&◌, cond, leb, Option, Some, None, is_some}
use Rattle.sv8_history.specs.Machine.{Machine, Run, state_at, footprint_at, writes_of}
use Rattle.sv8_history.specs.Trace.{some_from}

-- what changes a cell
pub data Cause (Value : Type 0) : Type 0 where
  -- the source is edited: the first state has the value
  Image : Value → Cause Value
  -- an event now sets the cell to the value, where there was none that did or in the place of another: a poke or a request
  Poke : Value → Cause Value
  -- the event no longer sets the cell, which uncovers what stood there
  Clear : Cause Value

-- A change of one cell: the step of its event (0 for the image), and the next step with an event that sets the cell anyway. Where there is none, that
-- is any step from the end of the record on.
pub record Change (m : Machine) : Type 0 where
  pub cell : m.Cell
  pub from : ℕ
  pub to : ℕ
  pub cause : Cause m.Value

-- the first state that can show the change
abbrev pub shown_from : (m : Machine) → Change m → ℕ
shown_from m c = shown c.cause
  where
    shown : Cause m.Value → ℕ
    shown (Image v) = c.from
    shown (Poke v) = suc c.from
    shown Clear = suc c.from

-- ---- the two runs

-- The runs differ in what the event of step `t` sets the cell to, which is `p` in the new one, and in nothing else.
pub record IsRepoked (m : Machine) (a : m.Cell) (t : ℕ) (p : Option m.Value) (old new : Run m) : Type 0 where
  pub start : new.start ≡ old.start
  pub here : m.AlikeBut a (old.events t) (new.events t)
  pub poke : m.poke a (new.events t) ≡ p
  pub elsewhere : (n : ℕ) → (n ≡ t → ⊥) → new.events n ≡ old.events n

-- The runs differ in what stands in the cell of the first state, which is `v` in the new one, and in nothing else.
pub record IsReimaged (m : Machine) (a : m.Cell) (v : m.Value) (old new : Run m) : Type 0 where
  pub start : new.start ≡ m.put a v old.start
  pub events : (n : ℕ) → new.events n ≡ old.events n

-- The new run is the old one with the change made.
abbrev pub IsChanged : (m : Machine) → Change m → Run m → Run m → Type 0
IsChanged m c old new = changed c.cause
  where
    changed : Cause m.Value → Type 0
    changed (Image v) = (c.from ≡ 0) × IsReimaged m c.cell v old new
    changed (Poke v) = IsRepoked m c.cell c.from (Some v) old new
    changed Clear = (is_some (m.poke c.cell (old.events c.from)) ≡ true) × IsRepoked m c.cell c.from None old new

-- .. with all of them made, one after the other
abbrev pub IsEdited : (m : Machine) → List (Change m) → Run m → Run m → Type 0
IsEdited m [] old new = (new.start ≡ old.start) × ((n : ℕ) → new.events n ≡ old.events n)
IsEdited m (c ∷ cs) old new = (between : Run m) × IsChanged m c old between × IsEdited m cs between new

-- ---- an edit as it is planned

-- the cell can hold what an edit of the source puts there
abbrev pub IsFitting : (m : Machine) → Change m → Type 0
IsFitting m c = fitting c.cause
  where
    fitting : Cause m.Value → Type 0
    fitting (Image v) = m.Fits c.cell v
    fitting (Poke v) = Unit {0}
    fitting Clear = Unit {0}

-- `last` is the least step from `first` on whose event sets the cell. Where there is none below step `r`, it is any step from `r` on.
pub record IsNextEvent (m : Machine) (run : Run m) (a : m.Cell) (first last r : ℕ) : Type 0 where
  pub after : first ≤ last
  pub none_between : (n : ℕ) → first ≤ n → n < last → m.poke a (run.events n) ≡ None
  pub there : last < r → is_some (m.poke a (run.events last)) ≡ true

-- The change goes from the first state that can show it up to the next event that sets the cell, of a run whose steps below `r` are recorded.
pub record IsPlanned (m : Machine) (run : Run m) (r : ℕ) (c : Change m) : Type 0 where
  pub has : m.Has c.cell run.start
  pub fits : IsFitting m c
  pub next : IsNextEvent m run c.cell (shown_from m c) c.to r

-- no change of the list is of the cell
abbrev pub IsApart : (m : Machine) → m.Cell → List (Change m) → Type 0
IsApart m a [] = Unit {0}
IsApart m a (c ∷ cs) = (m.same a c.cell ≡ false) × IsApart m a cs

-- The changes of an edit are of different cells, each up to the next event of its own cell: the bytes of a word may end at different steps.
abbrev pub ArePlanned : (m : Machine) → Run m → ℕ → List (Change m) → Type 0
ArePlanned m run r [] = Unit {0}
ArePlanned m run r (c ∷ cs) = IsPlanned m run r c × IsApart m c.cell cs × ArePlanned m run r cs

-- ---- what a run shows of changes that no step reads

-- The state of step `n` shows a change of a cause at `t` that the states from `first` to `last` can show: no step since the cause has written over it.
abbrev pub is_live : (ℕ → Bool) → ℕ → ℕ → ℕ → ℕ → Bool
is_live writes t first last n = leb first n && leb n last && not (some_from t n writes)

-- the value that a change gives the cell
abbrev pub value_of : (m : Machine) → Run m → Change m → m.Value
value_of m old c = value c.cause
  where
    value : Cause m.Value → m.Value
    value (Image v) = v
    value (Poke v) = v
    value Clear = m.get c.cell (state_at m old c.from)

-- the state `s` of step n, with the changes that it shows
abbrev pub with_changes : (m : Machine) → Run m → List (Change m) → ℕ → m.State → m.State
with_changes m old [] n s = s
with_changes m old (c ∷ cs) n s =
    with_changes
    m old cs n
    (cond (is_live (writes_of m (footprint_at m old) c.cell) c.from (shown_from m c) c.to n) (m.put c.cell (value_of m old c) s) s)
