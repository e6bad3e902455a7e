-- The machine after reset, with the image of a source in its RAM, and the run from there.
use Rattle.std.specs.Prelude.{ℕ}
use Rattle.sv8_history.specs.Machine.{Run}
use Rattle.sv8_time.specs.Schedule.{Schedule}
use Rattle.sv8_phys.specs.Memory.{ram_size}
use Rattle.sv8_phys.specs.Contents.{empty_contents}
use Rattle.sv8_source.specs.Text.{Text}
use Rattle.sv8_source.specs.Image.{image_bytes}
use Rattle.sv8_cpu.specs.State.{State, reset_over}
use Rattle.sv8_cpu.specs.Run.{steps}
use Rattle.sv8_cpu.specs.Recorded.{machine, event_at, AreEvents}

-- after reset: the image of a source in RAM over zeros, and everything else at rest
unfoldable pub reset_state : ℕ → ℕ → Text → State
reset_state windows pages source = reset_over windows (record (empty_contents pages) { ram = image_bytes source (ram_size pages) })

-- the state that is shown at step n: n steps from reset
abbrev pub state_at : ℕ → ℕ → Text → Schedule → ℕ → State
state_at windows pages source schedule n = steps windows pages schedule n (reset_state windows pages source)

-- the run of a source under a timeline
abbrev pub run_of : (windows pages : ℕ) → Text → (schedule : Schedule) → AreEvents pages schedule → Run (machine windows pages)
run_of windows pages source schedule valid = record { start = reset_state windows pages source; events = event_at schedule; valid = valid }
