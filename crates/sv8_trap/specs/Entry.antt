-- What a trap makes of the processor (chapter 7).
use Rattle.std.specs.Prelude.{ℕ, true, false, if◌then◌else◌}
use Rattle.sv8_regs.specs.Control.{below, above, with_trap_type}
use Rattle.sv8_regs.specs.Ring.{Registers, write}
use Rattle.sv8_trap.specs.Processor.{Processor, plus, transferred}
use Rattle.sv8_trap.specs.Table.{row_of}
use Rattle.sv8_trap.specs.declared.table.Trap.{Trap}
use Rattle.sv8_trap.specs.declared.table.Trap.TheVariants.{Interrupt}

-- the registers as a trap sets them: traps off, supervisor mode with the mode before it in PS, the window below, and tt
unfoldable pub trap_registers : ℕ → Registers → Trap → Registers
trap_registers windows r t =
    record r { psr = record r.psr { et = false; ps = r.psr.s; s = true }; cwp = below windows r.cwp; tbr = with_trap_type r.tbr (row_of t).trap_type }

-- a trap enters its handler, at the address in TBR; locals 1 and 2 of the handler's window keep two addresses to go back to
unfoldable pub entered_from : ℕ → Processor → Trap → ℕ → ℕ → Processor
entered_from windows p t pc npc =
    let r = trap_registers windows p.registers t in
    record p { registers = write windows (write windows r 17 pc) 18 npc; pc = r.tbr; npc = plus r.tbr 4; annul = false }

-- a trap of an instruction keeps PC and nPC
abbrev pub entered : ℕ → Processor → Trap → Processor
entered windows p t = entered_from windows p t p.pc p.npc

-- an interrupt does so too, but in front of an annulled slot it keeps the addresses behind the slot, so that the slot is not carried out later
unfoldable pub interrupted : ℕ → Processor → ℕ → Processor
interrupted windows p level =
    if p.annul then entered_from windows p (Interrupt level) p.npc (plus p.npc 4) else entered windows p (Interrupt level)

-- error mode: the processor stops, and everything else stays (section 7.2)
abbrev pub stopped : Processor → Processor
stopped p = record p { running = false }

-- a trap enters its handler where ET = 1; where ET = 0 the processor enters error mode
unfoldable pub with_trap : ℕ → Processor → Trap → Processor
with_trap windows p t = if p.registers.psr.et then entered windows p t else stopped p

-- a trap of RETT: where it leads to error mode, tt tells which it was (B.26)
unfoldable pub with_return_trap : ℕ → Processor → Trap → Processor
with_return_trap windows p t =
    if p.registers.psr.et then entered windows p t
    else stopped (record p { registers = record p.registers { tbr = with_trap_type p.registers.tbr (row_of t).trap_type } })

-- the return from a handler to a target: traps on, the mode before the trap, and the window above (B.26)
unfoldable pub returned : ℕ → Processor → ℕ → Processor
returned windows p target =
    let r = p.registers in
    transferred (record p { registers = record r { psr = record r.psr { et = true; s = r.psr.ps }; cwp = above windows r.cwp } }) target false
