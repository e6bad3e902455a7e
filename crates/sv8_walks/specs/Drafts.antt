-- Steps beyond the last checkpoint that are recorded one at a time.
use Rattle.std.specs.Prelude.{◌≡◌, ℕ, ◌<◌}
use Rattle.sv8_time.specs.Schedule.{Schedule}
use Rattle.sv8_cpu.specs.State.{State}
use Rattle.sv8_trace.specs.declared.interval.Interval.{Interval}
use Rattle.sv8_trace.specs.Recorder.{steps_on, IsRecorded}
use Rattle.sv8_trace.specs.Recording.{Recording, last_point, recorded}

pub record Drafted : Type 0 where
  pub state : State
  -- what is recorded of the steps since the last checkpoint, and how many these are
  pub interval : Interval
  pub count : ℕ

-- it has the steps since the last checkpoint, fewer than would make the next
pub record IsDraft (windows pages k : ℕ) (schedule : Schedule) (r : Recording) (d : Drafted) : Type 0 where
  pub few : d.count < k
  pub state : d.state ≡ steps_on windows pages schedule (recorded k r) (last_point r) d.count
  pub steps : IsRecorded windows pages schedule (recorded k r) (last_point r) d.count d.interval
