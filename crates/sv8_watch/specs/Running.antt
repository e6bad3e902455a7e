-- Steps that leave the machine running.
use Rattle.std.specs.Prelude.{◌≡◌, ℕ, true, false}
use Rattle.sv8_time.specs.Schedule.{Schedule}
use Rattle.sv8_cpu.specs.State.{State}
use Rattle.sv8_cpu.specs.Run.{step}
use Rattle.sv8_watch.specs.declared.condition.Condition.TheVariants as condition
use Rattle.sv8_watch.specs.Conditions.{meets}

-- WHERE THE MACHINE RUNS AFTER A STEP, it ran before it, and the step does not lead to error mode.
abbrev pub RunningStepsMiss : Type 0
RunningStepsMiss = (windows pages : ℕ) (schedule : Schedule) (n : ℕ) (s : State) → (step windows pages schedule n s).processor.running ≡ true
    → (s.processor.running ≡ true) × (meets windows pages schedule n s condition.Error ≡ false)
