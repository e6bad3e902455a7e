-- What an edit makes of a trace: a cut, and then patches.
use Rattle.std.specs.Prelude.{List, [], ◌∷◌, ℕ, suc, ◌*◌, ◌/◌, not, ◌&&◌, cond, ltb, leb, ◌==◌, Option, Some, None, is_some, option_map}
use Rattle.sv8_history.specs.Machine.{Machine, writes_of}
use Rattle.sv8_history.specs.Trace.{some_from, next_checkpoint, Trace}
use Rattle.sv8_history.specs.Changes.{Cause, Image, Poke, Clear, Change, is_live}
use Rattle.sv8_history.specs.Reads.{first_of_edit}

-- ---- the cut

-- the checkpoints above step 0 that a first read leaves, or none: those that are not above it
abbrev pub count_after : ℕ → ℕ → Option ℕ → ℕ
count_after k count None = count
count_after k count (Some s) = s / k

-- The trace is cut to fewer checkpoints, and keeps no value of a step behind them.
abbrev pub cut : (m : Machine) → ℕ → Trace m → ℕ → Trace m
cut m k trace count = record trace {
  count = count;
  kept = λ n b. cond (ltb n (k * count)) (trace.kept n b) None;
}

-- ---- a patch

-- The checkpoint of step `n`, with the value where it shows a change of a cause at `t` from `first` to `last`.
abbrev pub patched_point : (m : Machine) → Trace m → m.Cell → m.Value → ℕ → ℕ → ℕ → ℕ → m.State
patched_point m trace a v t first last n =
    cond (is_live (writes_of m trace.notes a) t first last n) (m.put a v (trace.point n)) (trace.point n)

-- The value kept below the event at `last`, which the change reaches where no step has written the cell.
abbrev pub kept_at_end : (m : Machine) → Trace m → m.Cell → m.Value → ℕ → ℕ → Option m.Value
kept_at_end m trace a v t last =
    cond (some_from t last (writes_of m trace.notes a)) (trace.kept last a) (option_map (λ w. v) (trace.kept last a))

-- The value is spread as far as the change reaches: over checkpoints, and below the event that ends it.
abbrev pub spread : (m : Machine) → Trace m → m.Cell → m.Value → ℕ → ℕ → ℕ → Trace m
spread m trace a v t first last = record trace {
  point = patched_point m trace a v t first last;
  kept = λ n b. cond (m.same a b && n == last) (kept_at_end m trace a v t last) (trace.kept n b);
}

-- Below the event at `t` this value is kept, or none.
abbrev pub keeping : (m : Machine) → Trace m → m.Cell → ℕ → Option m.Value → Trace m
keeping m trace a t p = record trace {
  kept = λ n b. cond (m.same a b && n == t) p (trace.kept n b);
}

-- The value to be kept below an event that is set at `t`: that of the event in whose place it comes, or of the first checkpoint that it patches, or
-- that below the event that ends it, which is not before it.
abbrev pub kept_by_poke : (m : Machine) → ℕ → Trace m → m.Cell → ℕ → ℕ → Option m.Value
kept_by_poke m k trace a t last =
    cond
    (is_some (trace.kept t a))
    (trace.kept t a)
    (cond
    (leb (next_checkpoint k t) (k * trace.count) && is_live (writes_of m trace.notes a) t (suc t) last (next_checkpoint k t))
    (Some (m.get a (trace.point (next_checkpoint k t))))
    (cond (leb t last && (ltb last (next_checkpoint k t) && not (some_from t last (writes_of m trace.notes a)))) (trace.kept last a) None))

-- An event sets the cell to `v` at `t`.
abbrev pub set_poke : (m : Machine) → ℕ → Trace m → m.Cell → m.Value → ℕ → ℕ → Trace m
set_poke m k trace a v t last = keeping m (spread m trace a v t (suc t) last) a t (kept_by_poke m k trace a t last)

-- The event at `t` is cleared, and the value kept below it uncovered. Where none is kept, no checkpoint showed the event, and nothing changes.
abbrev pub uncover : (m : Machine) → Trace m → m.Cell → ℕ → ℕ → Option m.Value → Trace m
uncover m trace a t last None = trace
uncover m trace a t last (Some v) = keeping m (spread m trace a v t (suc t) last) a t None

-- one change
abbrev pub patch : (m : Machine) → ℕ → Trace m → Change m → Trace m
patch m k trace c = by c.cause
  where
    by : Cause m.Value → Trace m
    by (Image v) = spread m trace c.cell v c.from c.from c.to
    by (Poke v) = set_poke m k trace c.cell v c.from c.to
    by Clear = uncover m trace c.cell c.from c.to (trace.kept c.from c.cell)

-- all of them, in order
abbrev pub patch_all : (m : Machine) → ℕ → Trace m → List (Change m) → Trace m
patch_all m k trace [] = trace
patch_all m k trace (c ∷ cs) = patch_all m k (patch m k trace c) cs

-- THE EDIT: the trace is cut by the first read of all changes, and then patched by each.
abbrev pub edited : (m : Machine) → ℕ → Trace m → List (Change m) → Trace m
edited m k trace cs = patch_all m k (cut m k trace (count_after k trace.count (first_of_edit m k trace cs))) cs
