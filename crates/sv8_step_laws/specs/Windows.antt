-- What a step makes of the registers of other windows.
use Rattle.std.specs.Prelude.{◌≡◌, ◌<◌, ◌≤◌, ℕ}
use Rattle.sv8_time.specs.Schedule.{Schedule}
use Rattle.sv8_regs.specs.Current.{other_windows}
use Rattle.sv8_trap.specs.Processor.{Processor}
use Rattle.sv8_cpu.specs.State.{State}
use Rattle.sv8_cpu.specs.Run.{step}

-- where CWP is what it was, so are the registers outside the current window
pub record LeavesOtherWindows (windows : ℕ) (p q : Processor) : Type 0 where
  pub others : q.registers.cwp ≡ p.registers.cwp → other_windows windows q.registers ≡ other_windows windows p.registers

-- A STEP THAT LEAVES CWP writes no register outside the current window.
abbrev pub OtherWindowsStay : Type 0
OtherWindowsStay = (windows pages : ℕ) (schedule : Schedule) (n : ℕ) (s : State) → 2 ≤ windows → s.processor.registers.cwp < windows
    → LeavesOtherWindows windows s.processor (step windows pages schedule n s).processor
