-- The run of a source is the machine's: its states, and what its steps touch.
use Rattle.std.proofs.Common.{◌≡◌, ℕ, zero, suc, refl, ap}
use Rattle.sv8_history.specs.Machine as history
use Rattle.sv8_time.specs.Schedule.{Schedule}
use Rattle.sv8_source.specs.Text.{Text}
use Rattle.sv8_memory.specs.Events.{with_events}
use Rattle.sv8_cpu.specs.Run as run
use Rattle.sv8_cpu.specs.Recorded.{footprint_of, machine, AreEvents}
use Rattle.sv8_reset.specs.Reset.{state_at, run_of}

module _ (windows pages : ℕ) (source : Text) (schedule : Schedule) (valid : AreEvents pages schedule) where
  pub state_is : (n : ℕ) → history.state_at (machine windows pages) (run_of windows pages source schedule valid) n ≡ state_at windows pages source schedule n
  unfolding run.steps run.step with_events
  state_is zero = refl
  state_is (suc n) = ap (run.step windows pages schedule n) (state_is n)

  pub footprint_is : (n : ℕ) → history.footprint_at (machine windows pages) (run_of windows pages source schedule valid) n
      ≡ footprint_of (run.footprint windows pages schedule n (state_at windows pages source schedule n))
  unfolding run.footprint with_events
  footprint_is n = ap (λ s. footprint_of (run.footprint windows pages schedule n s)) (state_is n)
