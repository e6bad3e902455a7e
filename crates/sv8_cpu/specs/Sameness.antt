-- Machines whose processors are the same, whatever their memories are.
use Rattle.std.specs.Prelude.{◌≡◌}
use Rattle.sv8_cpu.specs.State.{State}

-- the same run or error mode, PC, nPC, annul flag, PSR with CWP, WIM, TBR, Y, globals and registers of all windows, which are the parts of `Processor` and of its
-- `Registers`; and the same five registers of the memory management unit. RAM, the console, the timer and the pending levels may differ.
pub record IsSameProcessor (s t : State) : Type 0 where
  pub processor : s.processor ≡ t.processor
  pub mmu : s.mmu ≡ t.mmu
