-- How a trace begins and grows, and how a query finds a state by it.
use Rattle.std.specs.Prelude.{ℕ, zero, suc, ◌+◌, ◌-◌, ◌*◌, ◌/◌, false, not, ◌&&◌, cond, ltb, Option, Some, None, is_some, min}
use Rattle.sv8_history.specs.Machine.{Machine, Run, Notes, touches_of}
use Rattle.sv8_history.specs.Trace.{some_from, next_checkpoint, Trace}

-- the trace that has nothing recorded but the first state
abbrev pub new_trace : (m : Machine) → m.State → Trace m
new_trace m s = record {
  count = 0;
  point = λ n. s;
  notes = λ n. record { reads = λ a. false; writes = λ a. false; uses = λ a. false; takes = false };
  kept = λ n a. None;
}

-- the state that j steps lead to, from the state `s` of step n
abbrev pub steps_from : (m : Machine) → Run m → ℕ → m.State → ℕ → m.State
steps_from m run n s zero = s
steps_from m run n s (suc j) = m.step (run.events (n + j)) (steps_from m run n s j)

-- the state of a step after the record, from the last checkpoint
abbrev pub state_after : (m : Machine) → ℕ → Run m → Trace m → ℕ → m.State
state_after m k run trace n = steps_from m run (k * trace.count) (trace.point (k * trace.count)) (n - k * trace.count)

-- the notes, with those of the steps after the record
abbrev pub notes_after : (m : Machine) → ℕ → Run m → Trace m → Notes m
notes_after m k run trace n = cond (ltb n (k * trace.count)) (trace.notes n) (m.footprint (run.events n) (state_after m k run trace n))

-- the kept values, with those below the events of the next k steps, by their own notes
abbrev pub kept_after : (m : Machine) → ℕ → Run m → Trace m → ℕ → m.Cell → Option m.Value
kept_after m k run trace n a =
    cond
    (ltb n (k * trace.count))
    (trace.kept n a)
    (cond
    (ltb n (k * suc trace.count) && is_some (m.poke a (run.events n)) && not (some_from n (next_checkpoint k n) (touches_of m (notes_after m k run trace) a)))
    (Some (m.get a (state_after m k run trace n)))
    None)

-- the trace with the next k steps of the run
abbrev pub extended : (m : Machine) → ℕ → Run m → Trace m → Trace m
extended m k run trace = record {
  count = suc trace.count;
  point = λ n. cond (ltb (k * trace.count) n) (state_after m k run trace n) (trace.point n);
  notes = notes_after m k run trace;
  kept = kept_after m k run trace;
}

-- the last step with a recorded checkpoint that is not above `n`
abbrev pub restored : ℕ → ℕ → ℕ → ℕ
restored k count n = k * min count (n / k)
