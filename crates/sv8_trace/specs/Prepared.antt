-- A change of a trace that is built and not yet placed.
use Rattle.std.specs.Prelude.{◌≡◌, ℕ, suc, ◌*◌, ◌/◌, ◌%◌, ◌<◌, ◌≤◌, ltb, length, List, slice_index_or, cond, None, unwrap_or}
use Rattle.sv8_history.specs.Trace.{Trace, Agrees}
use Rattle.sv8_notes.specs.declared.kept.Kept.{Kept}
use Rattle.sv8_notes.specs.Kept.{kept_in}
use Rattle.sv8_cpu.specs.State.{State}
use Rattle.sv8_cpu.specs.Recorded.{machine}
use Rattle.sv8_trace.specs.declared.prepared.Staged.{Staged}
use Rattle.sv8_trace.specs.Columns.{overlaid, AreFull, AreColumns}
use Rattle.sv8_trace.specs.Recording.{Recording, blank, signs_of, no_interval, trace_of}

-- what was prepared, as it is seen from outside
abbrev pub Preparation : Type 0
Preparation = Staged

-- checkpoint i with what was prepared in its place
abbrev pub placed : Staged → ℕ → State → State
placed staged i s = overlaid staged.pages.items staged.levels.items i s

-- the kept values of interval i
abbrev pub list_at : Recording → Staged → ℕ → List Kept
list_at r staged i = unwrap_or (slice_index_or staged.kept.items i None) (slice_index_or r.intervals i no_interval).kept

-- THE TRACE THAT IS TO BE
abbrev pub prepared_trace : (windows pages k : ℕ) → Recording → Staged → Trace (machine windows pages)
prepared_trace windows pages k r staged = record {
  count = staged.count;
  point = λ n. placed staged (n / k) (slice_index_or r.points (n / k) blank);
  notes = (trace_of windows pages k r).notes;
  kept = λ n c. cond (ltb (n / k) staged.count) (kept_in (n % k) c (list_at r staged (n / k))) None;
}

-- it was prepared for this trace
pub record IsPreparedFor (pages : ℕ) (r : Recording) (staged : Staged) : Type 0 where
  pub count : staged.count ≤ length r.intervals
  pub columns : AreColumns pages staged.pages.items staged.levels.items
  -- every column has a page, or a level, of each checkpoint that stays
  pub full_pages : AreFull (suc staged.count) staged.pages.items
  pub full_levels : AreFull (suc staged.count) staged.levels.items
  pub lists_count : length staged.kept.items ≡ staged.count

-- It was placed: the trace shows what was prepared, and each interval that stays keeps its flag.
pub record IsPlaced (windows pages k : ℕ) (old : Recording) (staged : Staged) (new : Recording) : Type 0 where
  pub agrees : Agrees (machine windows pages) k (prepared_trace windows pages k old staged) (trace_of windows pages k new)
  pub signs : (i : ℕ) → i < length new.intervals → signs_of new i ≡ signs_of old i
