-- A processor whose traps can be computed.
use Rattle.std.specs.Prelude.{true, false}
use Rattle.sv8_regs.specs.Ring.{reset}
use Rattle.sv8_trap.specs.Processor.{Processor}

-- a user program in window 0 of eight, traps on, with PIL 3 and Z set, and its trap table at address 4000 (hexadecimal)
abbrev pub user : Processor
user = record {
  registers = record (reset 8) { psr = record { n = false; z = true; v = false; c = false; pil = 3; s = false; ps = true; et = true }; tbr = 0x4000 };
  pc = 0x100;
  npc = 0x200;
  annul = false;
  running = true;
}
