-- Laws of the machine as the theory of recorded runs sees it.
use Rattle.std.specs.Prelude.{◌≡◌, ℕ}
use Rattle.sv8_model.specs.Frame.{Cells, Alike, Unread, Framed}
use Rattle.sv8_model.specs.Outside.{Outside}
use Rattle.sv8_model.specs.Action.{touches}
use Rattle.sv8_history.specs.Machine as history
use Rattle.sv8_history.specs.Framed.{IsFramed}
use Rattle.sv8_time.specs.Schedule.{Schedule, IsTimeline}
use Rattle.sv8_phys.specs.Memory.{ram_size}
use Rattle.sv8_source.specs.Text.{Text}
use Rattle.sv8_memory.specs.Units.{Units}
use Rattle.sv8_memory.specs.Access.{access}
use Rattle.sv8_trap.specs.declared.request.AccessRequest.{AccessRequest}
use Rattle.sv8_cpu.specs.Run.{footprint}
use Rattle.sv8_cpu.specs.Recorded.{machine, footprint_of, AreEvents}
use Rattle.sv8_reset.specs.Reset.{state_at, run_of}

-- the frame law of an access: one that reads no cell of a set does the same whatever these cells hold, and leaves those of them that it does not write
abbrev pub AccessFrames : Type 0
AccessFrames = (limit : ℕ) (u : Units) (request : AccessRequest) (cells : Cells) (o o' : Outside) → Alike cells o o' → Unread cells (touches (access limit u request) o)
    → Framed cells (access limit u request) o o'

-- THE FRAME LAW of a step with its event, for every number of windows and pages
abbrev pub StepFrames : Type 0
StepFrames = (windows pages : ℕ) → IsFramed (machine windows pages)

-- the states of a run are those of the machine's definition, and so are the footprints
abbrev pub RunsAgree : Type 0
RunsAgree = (windows pages : ℕ) (source : Text) (schedule : Schedule) (valid : AreEvents pages schedule) (n : ℕ)
    → (history.state_at (machine windows pages) (run_of windows pages source schedule valid) n ≡ state_at windows pages source schedule n)
    × (history.footprint_at (machine windows pages) (run_of windows pages source schedule valid) n ≡ footprint_of (footprint windows pages schedule n (state_at windows pages source schedule n)))

-- every timeline of that size of RAM has such events
abbrev pub TimelinesServe : Type 0
TimelinesServe = (pages : ℕ) (schedule : Schedule) → IsTimeline schedule → schedule.limit ≡ ram_size pages → AreEvents pages schedule
