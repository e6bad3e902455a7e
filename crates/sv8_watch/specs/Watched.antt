-- What is kept of a machine while its step is made, and a step that was made.
use Rattle.std.specs.Prelude.{◌≡◌, ℕ}
use Rattle.sv8_model.specs.Does.{Notes}
use Rattle.sv8_model.specs.Footprint.{expires}
use Rattle.sv8_time.specs.Schedule.{Schedule}
use Rattle.sv8_phys.specs.Ends.{IsEnd}
use Rattle.sv8_cpu.specs.State.{State}
use Rattle.sv8_cpu.specs.Run.{step, footprint, observed}
use Rattle.sv8_watch.specs.declared.happening.Happening.{Happening}
use Rattle.sv8_watch.specs.declared.watched.Before.{Before}
use Rattle.sv8_watch.specs.declared.watched.MadeStep.{MadeStep}
use Rattle.sv8_watch.specs.Happening.{happened}

pub record IsBefore (s : State) (b : Before) : Type 0 where
  pub pc : b.pc ≡ s.processor.pc
  pub running : b.running ≡ s.processor.running
  pub annul : b.annul ≡ s.processor.annul
  pub taken : b.taken ≡ s.memory.taken
  pub put : IsEnd s.memory.output b.put

-- STEP n WAS MADE FROM A STATE: there is what was kept of the state, the state after the step, and the notes of the step
pub record IsStepFrom (windows pages : ℕ) (schedule : Schedule) (n : ℕ) (s : State) (b : Before) (after : State) (notes : Notes) : Type 0 where
  pub before : IsBefore s b
  pub state : after ≡ step windows pages schedule n s
  pub touches : notes.touches ≡ footprint windows pages schedule n s
  pub observations : notes.observations ≡ observed windows pages schedule n s

-- what happened in a step that was made from a state
abbrev pub happening_of : {windows pages : ℕ} → State → MadeStep windows pages → Happening
happening_of s made = happened made.timeline.now made.n s made.after.now made.watch.now.observations (expires made.watch.now.touches)
