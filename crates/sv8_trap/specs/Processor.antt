-- The processor: its registers, its two program counters, the annul flag, and whether it runs (chapter 4; chapter 7 for error mode).
use Rattle.std.specs.Prelude.{ℕ, ◌+◌, ◌%◌, ◌^◌, Bool, true, false}
use Rattle.sv8_regs.specs.Control.{with_condition_codes}
use Rattle.sv8_regs.specs.Ring.{Registers, write, reset}
use Rattle.sv8_regs.specs.declared.ConditionCodes.{ConditionCodes}

pub record Processor : Type 0 where
  pub registers : Registers
  -- the address of the instruction that is carried out next, and of the one after it
  pub pc : ℕ
  pub npc : ℕ
  -- whether the instruction at PC is left out
  pub annul : Bool
  -- whether the processor runs; else it is in error mode
  pub running : Bool

-- after reset: PC 0, nPC 4, S = 1, ET = 0 and all else 0
abbrev pub reset_processor : ℕ → Processor
reset_processor windows = record { registers = reset windows; pc = 0; npc = 4; annul = false; running = true }

-- the sum of two words
abbrev pub plus : ℕ → ℕ → ℕ
plus x y = (x + y) % 2 ^ 32

-- ---- the counters

-- on to the next instruction (section 5.1.2)
unfoldable pub advanced : Processor → Processor
advanced p = record p { pc = p.npc; npc = plus p.npc 4 }

-- a transfer of control: the delay slot is next, annulled or not, and the target follows it
unfoldable pub transferred : Processor → ℕ → Bool → Processor
transferred p target annul = record p { pc = p.npc; npc = target; annul = annul }

-- the slot behind a transfer of control that annulled it is passed over
unfoldable pub slot_skipped : Processor → Processor
slot_skipped p = advanced (record p { annul = false })

-- ---- the registers

-- register rd of the current window is written
abbrev pub with_register : ℕ → Processor → ℕ → ℕ → Processor
with_register windows p rd value = record p { registers = write windows p.registers rd value }

-- it is written, and the processor goes on
unfoldable pub with_result : ℕ → Processor → ℕ → ℕ → Processor
with_result windows p rd value = advanced (with_register windows p rd value)

abbrev pub with_codes : Processor → ConditionCodes → Processor
with_codes p codes = record p { registers = record p.registers { psr = with_condition_codes codes p.registers.psr } }

abbrev pub with_y : Processor → ℕ → Processor
with_y p y = record p { registers = record p.registers { y = y } }

abbrev pub in_window : Processor → ℕ → Processor
in_window p cwp = record p { registers = record p.registers { cwp = cwp } }
