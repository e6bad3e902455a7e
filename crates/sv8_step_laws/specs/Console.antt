-- What a step makes of the console.
use Rattle.std.specs.Prelude.{◌≤◌, ℕ, length}
use Rattle.sv8_time.specs.Schedule.{Schedule}
use Rattle.sv8_cpu.specs.State.{State}
use Rattle.sv8_cpu.specs.Run.{step}

-- no fewer bytes are taken from the console, and no fewer are put out
pub record ConsoleGrows (s next : State) : Type 0 where
  pub taken : s.memory.taken ≤ next.memory.taken
  pub output : length s.memory.output ≤ length next.memory.output

-- A STEP TAKES BACK no byte that was put out, and gives back none that was taken.
abbrev pub ConsolesGrow : Type 0
ConsolesGrow = (windows pages : ℕ) (schedule : Schedule) (n : ℕ) (s : State) → ConsoleGrows s (step windows pages schedule n s)
