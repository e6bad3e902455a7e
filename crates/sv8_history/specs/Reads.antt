-- The steps that read what an edit has changed, and the first of them.
use Rattle.std.specs.Prelude.{◌≡◌, List, [], ◌∷◌, ◌++◌, ℕ, zero, suc, ◌*◌, ◌<◌, Bool, true, false, not, ◌&&◌, ◌||◌, cond, ltb, leb, Option, Some, None, min, max}
use Rattle.sv8_history.specs.Machine.{Machine, Run, footprint_at, Notes, reads_of, writes_of}
use Rattle.sv8_history.specs.Trace.{some_from, Trace}
use Rattle.sv8_history.specs.Changes.{Change, Clear}

-- Step `n` reads what the change has left: the change has come and is not over, and no step since has written the cell. A read at the step of the
-- next event is none, since that event comes before the step reads.
abbrev pub reads_change : (m : Machine) → Notes m → Change m → ℕ → Bool
reads_change m notes c n =
    leb c.from n && ltb n c.to && reads_of m notes c.cell n && not (m.ends_search c.cell && some_from c.from n (writes_of m notes c.cell))

-- it reads what one of the changes has left
abbrev pub reads_edit : (m : Machine) → Notes m → List (Change m) → ℕ → Bool
reads_edit m notes [] n = false
reads_edit m notes (c ∷ cs) n = reads_change m notes c n || reads_edit m notes cs n

-- ---- the first read, by the run

-- `s` is the least step in `f`
pub record IsLeast (f : ℕ → Bool) (s : ℕ) : Type 0 where
  pub here : f s ≡ true
  pub least : (n : ℕ) → n < s → f n ≡ false

abbrev pub IsFirstRead : (m : Machine) → Run m → List (Change m) → ℕ → Type 0
IsFirstRead m run cs s = IsLeast (reads_edit m (footprint_at m run) cs) s

-- ---- the first read, by the notes of a trace

-- the first of two answers
abbrev pub or_else : Option ℕ → Option ℕ → Option ℕ
or_else None q = q
or_else (Some s) q = Some s

-- the least step below `c` in `f`
abbrev pub least_below : ℕ → (ℕ → Bool) → Option ℕ
least_below zero f = None
least_below (suc c) f = or_else (least_below c f) (cond (f c) (Some c) None)

-- of one change, and of an edit
abbrev pub first_of_change : (m : Machine) → ℕ → Trace m → Change m → Option ℕ
first_of_change m k trace c = least_below (k * trace.count) (reads_change m trace.notes c)

abbrev pub first_of_edit : (m : Machine) → ℕ → Trace m → List (Change m) → Option ℕ
first_of_edit m k trace cs = least_below (k * trace.count) (reads_edit m trace.notes cs)

-- the earlier of two steps, where there are any
abbrev pub earlier : Option ℕ → Option ℕ → Option ℕ
earlier None q = q
earlier (Some s) None = Some s
earlier (Some s) (Some r) = Some (min s r)

-- the least of the changes' first reads
abbrev pub first_of_each : (m : Machine) → ℕ → Trace m → List (Change m) → Option ℕ
first_of_each m k trace [] = None
first_of_each m k trace (c ∷ cs) = earlier (first_of_change m k trace c) (first_of_each m k trace cs)

-- ---- one search for the bytes of a word

-- Every step reads and writes the cells together, as the bytes of a word.
pub record AreTogether (m : Machine) (a b : m.Cell) : Type 0 where
  pub reads : (e : m.Event) (s : m.State) → (m.footprint e s).reads a ≡ (m.footprint e s).reads b
  pub writes : (e : m.Event) (s : m.State) → (m.footprint e s).writes a ≡ (m.footprint e s).writes b
  pub ends : m.ends_search a ≡ m.ends_search b

-- the changes have one cause, at `t`, and are within the word of the cell `a`
abbrev pub AreOneWord : (m : Machine) → m.Cell → ℕ → List (Change m) → Type 0
AreOneWord m a t [] = Unit {0}
AreOneWord m a t (c ∷ cs) = (c.from ≡ t) × AreTogether m c.cell a × AreOneWord m a t cs

-- where the last of them ends
abbrev pub last_end : (m : Machine) → List (Change m) → ℕ
last_end m [] = 0
last_end m (c ∷ cs) = max c.to (last_end m cs)

-- the changes within one word: a cell of it, and the step of their cause
pub record WordChanges (m : Machine) : Type 0 where
  pub cell : m.Cell
  pub from : ℕ
  pub changes : List (Change m)

abbrev pub AreWords : (m : Machine) → List (WordChanges m) → Type 0
AreWords m [] = Unit {0}
AreWords m (w ∷ ws) = AreOneWord m w.cell w.from w.changes × AreWords m ws

abbrev pub all_changes : (m : Machine) → List (WordChanges m) → List (Change m)
all_changes m [] = []
all_changes m (w ∷ ws) = w.changes ++ all_changes m ws

-- one search a word, up to where the last of its changes ends
abbrev pub by_words : (m : Machine) → List (WordChanges m) → List (Change m)
by_words m [] = []
by_words m (w ∷ ws) = record { cell = w.cell; from = w.from; to = last_end m w.changes; cause = Clear } ∷ by_words m ws
