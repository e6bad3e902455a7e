-- The notes of an interval, taken step by step. The frequent steps stand among them at once, touch by touch; any other step waits for its end, as a list.
use Rattle.std.specs.Prelude.{◌≡◌, ℕ, ◌-◌, ◌==◌, Bool, true, false, List, [], ◌∷◌, ◌++◌, Option, Some, None, if◌then◌else◌, length, take}
use Rattle.std.proofs.Common.{refl}
use Rattle.sv8_model.specs.declared.touch.Touch.{Touch}
use Rattle.sv8_model.specs.declared.touch.Touch.TheVariants.{Read, Write, Input, Levels, Expiry}
use Rattle.sv8_model.specs.Does.{Noting}
use Rattle.sv8_touches.specs.Told.{told}
use Rattle.sv8_notes.specs.declared.notes.WordNote.{WordNote}
use Rattle.sv8_notes.specs.declared.word_run.WordRun.{WordRun}
use Rattle.sv8_notes.specs.declared.recorder.Stage.{Stage}
use Rattle.sv8_notes.specs.declared.recorder.Stage.TheVariants as stage
use Rattle.sv8_notes.specs.WordRuns.{words_of_run}
use Rattle.sv8_notes.specs.Steps.{Steps, Gains}

-- the notes with the words of a run among those that steps fetch
abbrev pub with_run : Steps → WordRun → Steps
with_run s run = record s { fetches = s.fetches ++ words_of_run run }

-- ---- a step under way

-- what it has touched so far, behind the levels that it may have asked first: nothing; a word that it read; that, and a word that it read or wrote behind it,
-- another one where it wrote; or anything else, as a list with those levels in it
pub data Shape : Type 0 where
  nothing : Shape
  fetched : ℕ → Shape
  loaded : ℕ → ℕ → Shape
  stored : ℕ → ℕ → Shape
  rare : List Touch → Shape

-- the shape that code keeps apart
abbrev pub shape_of : Stage → ℕ → ℕ → List Touch → Shape
shape_of stage.Nothing first second list = nothing
shape_of stage.Fetched first second list = fetched first
shape_of stage.Loaded first second list = loaded first second
shape_of stage.Stored first second list = stored first second
shape_of stage.Rare first second list = rare list

pub record Recording : Type 0 where
  pub notes : Steps
  -- of the step under way: its offset, the levels that it asked first, which are not among the notes yet, and its shape
  pub offset : ℕ
  pub asked : Option ℕ
  pub shape : Shape

-- a step begins
abbrev pub begun : Steps → ℕ → Recording
begun notes offset = record { notes = notes; offset = offset; asked = None; shape = nothing }

-- ---- one touch more

abbrev pub asked_first : Option ℕ → List Touch
asked_first None = []
asked_first (Some word) = Levels word ∷ []

-- all that it has touched so far
abbrev pub so_far : Shape → Option ℕ → List Touch
so_far nothing asked = asked_first asked
so_far (fetched f) asked = asked_first asked ++ Read f ∷ []
so_far (loaded f a) asked = asked_first asked ++ Read f ∷ Read a ∷ []
so_far (stored f a) asked = asked_first asked ++ Read f ∷ Write a ∷ []
so_far (rare ts) asked = ts

abbrev pub without_last : List WordNote → List WordNote
without_last notes = take (length notes - 1) notes

-- the notes without that of the word that it wrote
abbrev pub without_stored : Shape → Steps → Steps
without_stored (stored f a) s = record s { writes = without_last s.writes }
without_stored nothing s = s
without_stored (fetched f) s = s
without_stored (loaded f a) s = s
without_stored (rare ts) s = s

-- it is none of the frequent steps
abbrev pub with_rare : Recording → Touch → Recording
with_rare r t = record { notes = without_stored r.shape r.notes; offset = r.offset; asked = None; shape = rare (so_far r.shape r.asked ++ t ∷ []) }

abbrev pub word_at : ℕ → ℕ → List WordNote
word_at address offset = record { address = address; offset = offset } ∷ []

-- a word that it reads first
abbrev pub with_fetch : Recording → ℕ → Recording
with_fetch r a = record r { notes = record r.notes { fetches = r.notes.fetches ++ word_at a r.offset }; shape = fetched a }

-- a word that it reads behind others
abbrev pub with_load : Shape → Recording → ℕ → Recording
with_load (fetched f) r a = record r { notes = record r.notes { reads = r.notes.reads ++ word_at a r.offset }; shape = loaded f a }
with_load nothing r a = with_rare r (Read a)
with_load (loaded f b) r a = with_rare r (Read a)
with_load (stored f b) r a = with_rare r (Read a)
with_load (rare ts) r a = with_rare r (Read a)

abbrev pub with_read : Shape → Recording → ℕ → Recording
with_read nothing r a = with_fetch r a
with_read (fetched f) r a = with_load (fetched f) r a
with_read (loaded f b) r a = with_load (loaded f b) r a
with_read (stored f b) r a = with_load (stored f b) r a
with_read (rare ts) r a = with_load (rare ts) r a

abbrev pub with_write : Shape → Recording → ℕ → Recording
with_write (fetched f) r a = if f == a then with_rare r (Write a) else record r { notes = record r.notes { writes = r.notes.writes ++ word_at a r.offset }; shape = stored f a }
with_write nothing r a = with_rare r (Write a)
with_write (loaded f b) r a = with_rare r (Write a)
with_write (stored f b) r a = with_rare r (Write a)
with_write (rare ts) r a = with_rare r (Write a)

abbrev pub with_levels : Shape → Option ℕ → Recording → ℕ → Recording
with_levels nothing None r word = record r { asked = Some word }
with_levels nothing (Some other) r word = with_rare r (Levels word)
with_levels (fetched f) asked r word = with_rare r (Levels word)
with_levels (loaded f a) asked r word = with_rare r (Levels word)
with_levels (stored f a) asked r word = with_rare r (Levels word)
with_levels (rare ts) asked r word = with_rare r (Levels word)

abbrev pub with_touch : Recording → Touch → Recording
with_touch r (Read a) = with_read r.shape r a
with_touch r (Write a) = with_write r.shape r a
with_touch r (Levels word) = with_levels r.shape r.asked r word
with_touch r Input = with_rare r Input
with_touch r Expiry = with_rare r Expiry

abbrev pub with_touches : Recording → List Touch → Recording
with_touches r [] = r
with_touches r (t ∷ ts) = with_touches (with_touch r t) ts

pub with_both : (r : Recording) (ts us : List Touch) → with_touches (with_touches r ts) us ≡ with_touches r (ts ++ us)
with_both r [] us = refl
with_both r (t ∷ ts) us = with_both (with_touch r t) ts us

-- touches go into the recording, and nothing that is seen does
abbrev pub recording : Noting
recording = record { Taken = Recording; with = λ r ts os. with_touches r ts; nothing = λ r. refl; together = λ r ts us os ps. with_both r ts us }

-- ---- a step from its list

abbrev pub is_levels : Touch → Bool
is_levels (Levels word) = true
is_levels (Read a) = false
is_levels (Write a) = false
is_levels Input = false
is_levels Expiry = false

-- it touches at most twice, or three times where it asks levels first, as each frequent step does
abbrev pub is_short : List Touch → Bool
is_short [] = true
is_short (a ∷ []) = true
is_short (a ∷ b ∷ []) = true
is_short (a ∷ b ∷ c ∷ []) = is_levels a
is_short (a ∷ b ∷ c ∷ d ∷ ts) = false

-- ---- the end of the step

-- the levels that it asked first are among the notes
abbrev pub HasAsked : Option ℕ → ℕ → Steps → Steps → Type 0
HasAsked None offset old new = new ≡ old
HasAsked (Some word) offset old new = Gains offset (Levels word ∷ []) (Levels word ∷ []) old new

-- those of a frequent step have all that it touched, and those of any other one what is told of the list
abbrev pub HasEnded : Shape → Option ℕ → ℕ → Steps → Steps → Type 0
HasEnded (rare ts) asked offset old new = Gains offset (told ts) (told ts) old new
HasEnded nothing asked offset old new = HasAsked asked offset old new
HasEnded (fetched f) asked offset old new = HasAsked asked offset old new
HasEnded (loaded f a) asked offset old new = HasAsked asked offset old new
HasEnded (stored f a) asked offset old new = HasAsked asked offset old new
