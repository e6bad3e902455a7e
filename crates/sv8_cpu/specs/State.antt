-- The whole state of the machine.
use Rattle.std.specs.Prelude.{ℕ, ◌+◌, ◌-◌, List, length, drop}
use Rattle.sv8_model.specs.Outside.{Outside}
use Rattle.sv8_time.specs.Schedule.{Schedule, arrived}
use Rattle.sv8_phys.specs.Contents.{Contents}
use Rattle.sv8_trap.specs.Processor.{Processor, reset_processor}
use Rattle.sv8_mmu.specs.declared.registers.Mmu.{Mmu}
use Rattle.sv8_mmu.specs.Registers.{registers_at_reset}
use Rattle.sv8_cpu.specs.Step.{Inner}

-- of the console's input it has the number of bytes taken: which bytes wait follows from the timeline
pub record State : Type 0 where
  pub processor : Processor
  pub mmu : Mmu
  -- RAM, the console, the timer and the pending levels
  pub memory : Contents

-- the bytes that wait at the console in the state at step n: those that came in at the steps below it, but for those taken
abbrev pub waiting : Schedule → ℕ → State → List ℕ
waiting schedule n s = drop s.memory.taken (arrived n schedule)

-- after reset, over a memory: the processor and the registers of the memory management unit are at rest
abbrev pub reset_over : ℕ → Contents → State
reset_over windows memory = record { processor = reset_processor windows; mmu = registers_at_reset; memory = memory }

-- the state as its parts outside and not outside
abbrev pub inner_of : State → Inner
inner_of s = record { processor = s.processor; units = record { mmu = s.mmu; timer = s.memory.timer } }

-- the state that an action leaves: the bytes that no longer wait have been taken
abbrev pub left_by : Inner → Contents → Outside → Outside → State
left_by inner m o o' = record {
  processor = inner.processor;
  mmu = inner.units.mmu;
  memory = record {
    ram = o'.ram;
    taken = m.taken + (length o.waiting - length o'.waiting);
    output = o'.output;
    pending = o'.pending;
    timer = inner.units.timer;
  };
}
