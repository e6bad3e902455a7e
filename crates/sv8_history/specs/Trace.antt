-- What a trace keeps of a run: checkpoints, notes, and the values below events.
use Rattle.std.specs.Prelude.{◌≡◌, ℕ, zero, suc, ◌+◌, ◌*◌, ◌/◌, ◌<◌, ◌≤◌, Bool, false, not, ◌&&◌, ◌||◌, cond, ltb, leb, Option, Some, None, is_some}
use Rattle.sv8_history.specs.Machine.{SameFootprint, Machine, Run, state_at, footprint_at, Notes, touches_of}

-- some step from `t` on and before `c` is in `f`
abbrev pub some_from : ℕ → ℕ → (ℕ → Bool) → Bool
some_from t zero f = false
some_from t (suc c) f = some_from t c f || (leb t c && f c)

-- The first step above `n` that has a checkpoint, where every k-th step has one.
abbrev pub next_checkpoint : ℕ → ℕ → ℕ
next_checkpoint k n = k * (n / k) + k

-- THE KEPT VALUE below the event of step `n` that sets the cell: what stood there before it. It is kept where the step is recorded and nothing
-- touches the cell up to the next checkpoint: with the event cleared, that checkpoint shows the value.
abbrev pub kept_at : (m : Machine) → ℕ → Run m → ℕ → ℕ → m.Cell → Option m.Value
kept_at m k run recorded n a =
    cond
    (ltb n recorded && is_some (m.poke a (run.events n)) && not (some_from n (next_checkpoint k n) (touches_of m (footprint_at m run) a)))
    (Some (m.get a (state_at m run n)))
    None

-- What a trace shows, whatever its representation. The steps below `k * count` are recorded.
pub record Trace (m : Machine) : Type 0 where
  -- the number of checkpoints above step 0
  pub count : ℕ
  -- the checkpoint of a step
  pub point : ℕ → m.State
  -- the notes of the recorded steps
  pub notes : Notes m
  -- the value kept below the event of a step that sets the cell
  pub kept : ℕ → m.Cell → Option m.Value

-- THE TRACE IS THAT OF THE RUN: each checkpoint is the run's state, each note its step's footprint, and each value that is to be kept is kept.
pub record IsTraceOf (m : Machine) (k : ℕ) (run : Run m) (trace : Trace m) : Type 0 where
  pub points : (i : ℕ) → i ≤ trace.count → trace.point (k * i) ≡ state_at m run (k * i)
  pub notes : (n : ℕ) → n < k * trace.count → SameFootprint (trace.notes n) (footprint_at m run n)
  pub kept : (n : ℕ) (a : m.Cell) → trace.kept n a ≡ kept_at m k run (k * trace.count) n a

-- the trace that records a run in one go
abbrev pub trace_of : (m : Machine) → ℕ → Run m → ℕ → Trace m
trace_of m k run count = record {
  count = count;
  point = state_at m run;
  notes = footprint_at m run;
  kept = kept_at m k run (k * count);
}

-- The traces show the same where it counts: their checkpoints, the notes of the recorded steps, and the kept values.
pub record Agrees (m : Machine) (k : ℕ) (trace other : Trace m) : Type 0 where
  pub count : other.count ≡ trace.count
  pub points : (i : ℕ) → i ≤ trace.count → other.point (k * i) ≡ trace.point (k * i)
  pub notes : (n : ℕ) → n < k * trace.count → SameFootprint (other.notes n) (trace.notes n)
  pub kept : (n : ℕ) (a : m.Cell) → other.kept n a ≡ trace.kept n a

-- The traces show the same, and have one set of notes.
pub record Near (m : Machine) (k : ℕ) (v w : Trace m) : Type 0 where
  pub count : v.count ≡ w.count
  pub points : (i : ℕ) → i ≤ w.count → v.point (k * i) ≡ w.point (k * i)
  pub notes : v.notes ≡ w.notes
  pub kept : (n : ℕ) (c : m.Cell) → v.kept n c ≡ w.kept n c
