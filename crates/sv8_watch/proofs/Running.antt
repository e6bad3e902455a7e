-- A machine that runs after a step ran before it, and did not come to error mode in it.
use Rattle.std.proofs.Common.{◌≡◌, ℕ, ◌+◌, Bool, true, false, Option, Some, None, if◌then◌else◌, refl, sym, ◌∙◌, ap}
use Rattle.std.proofs.lemmas.Bool.{true≢false}
use Rattle.sv8_time.specs.Schedule.{Schedule, arrived}
use Rattle.sv8_phys.specs.Memory.{ram_size}
use Rattle.sv8_model.specs.Action.{done}
use Rattle.sv8_cpu.specs.State.{State, inner_of}
use Rattle.sv8_cpu.specs.Step.{awake, action}
use Rattle.sv8_cpu.specs.Run.{step, observed, acted_on, eventful}
use Rattle.sv8_watch.specs.Happening.{happening, outcome_of, trap_in}
use Rattle.sv8_watch.specs.Conditions.{is_error}
use Rattle.sv8_watch.specs.Running.{RunningStepsMiss}

-- an outcome after which the machine runs is no error
no_error : (running annul : Bool) (trap : Option ℕ) → is_error (outcome_of running annul true trap) ≡ false
no_error false annul trap = refl
no_error true annul (Some tt) = refl
no_error true true None = refl
no_error true false None = refl

-- a machine that does not run stays so
stopped : (windows pages : ℕ) (schedule : Schedule) (n : ℕ) (s : State) → s.processor.running ≡ false → (step windows pages schedule n s).processor.running ≡ false
unfolding step action
stopped windows pages schedule n s h =
    let e = eventful schedule n s in
    let m = inner_of e in
    ap (λ (b : Bool). (acted_on (arrived (n + 1) schedule) e (if b then awake windows (ram_size pages) m else done m)).processor.running) h ∙ h

ran : (before after : Bool) → (before ≡ false → after ≡ false) → after ≡ true → before ≡ true
ran true after h e = refl
ran false after h e = absurd (true≢false (sym e ∙ h refl))

pub running_steps_miss : RunningStepsMiss
unfolding happening
running_steps_miss windows pages schedule n s e = (
  ran s.processor.running (step windows pages schedule n s).processor.running (stopped windows pages schedule n s) e,
  ap (λ (b : Bool). is_error (outcome_of s.processor.running s.processor.annul b (trap_in (observed windows pages schedule n s)))) e
      ∙ no_error s.processor.running s.processor.annul (trap_in (observed windows pages schedule n s)),
)
