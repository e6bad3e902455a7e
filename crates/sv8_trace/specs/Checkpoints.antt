-- What is read of a checkpoint.
use Rattle.std.specs.Prelude.{◌≡◌}
use Rattle.sv8_phys.specs.Ends.{IsEnd}
use Rattle.sv8_cpu.specs.State.{State}
use Rattle.sv8_trace.specs.declared.checkpoint.Checkpoint.{Checkpoint}

-- it is read of this state
pub record IsCheckpoint (s : State) (c : Checkpoint) : Type 0 where
  pub running : c.running ≡ s.processor.running
  pub taken : c.taken ≡ s.memory.taken
  pub output : IsEnd s.memory.output c.output_end
