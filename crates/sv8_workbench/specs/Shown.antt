-- What is shown of a state.
use Rattle.std.specs.Prelude.{ℕ, ◌+◌, ◌/◌, List, length, map}
use Rattle.sv8_model.specs.Outside.{word_of}
use Rattle.std.specs.List.{range_with_len}
use Rattle.sv8_regs.specs.Ring.{Registers, read}
use Rattle.sv8_regs.specs.Control.{packed_psr}
use Rattle.sv8_model.specs.Levels.{levels_word}
use Rattle.sv8_time.specs.Schedule.{Schedule}
use Rattle.sv8_cpu.specs.State.{State, waiting}
use Rattle.sv8_reset.specs.Reset.{state_at}
use Rattle.sv8_workbench.specs.Kept.{Kept}
use Rattle.sv8_workbench.specs.declared.shown.Shown.{Shown}

-- r[0] to r[31] of the current window
unfoldable pub shown_registers : ℕ → Registers → List ℕ
shown_registers windows r = map (read windows r) (range_with_len 0 32)

-- of a state at a step; which bytes wait at the console depends on the timeline
unfoldable pub shown_state : ℕ → Schedule → ℕ → State → Shown
shown_state windows timeline n s =
    let p = s.processor in
    record {
      running = p.running;
      pc = p.pc;
      npc = p.npc;
      annul = p.annul;
      psr = packed_psr p.registers.psr p.registers.cwp;
      wim = p.registers.wim;
      tbr = p.registers.tbr;
      y = p.registers.y;
      registers = shown_registers windows p.registers;
      mmu = s.mmu;
      timer = s.memory.timer;
      pending = levels_word s.memory.pending;
      waiting = length (waiting timeline n s);
    }

-- the state of a workbench's machine at a step
abbrev pub machine_state : Kept → ℕ → State
machine_state k n = state_at k.windows k.pages k.source k.timeline n

-- what is shown of it
abbrev pub shown_at : Kept → ℕ → Shown
shown_at k n = shown_state k.windows k.timeline n (machine_state k n)

-- so many words of RAM from an address on
unfoldable pub words_in : List ℕ → ℕ → ℕ → List ℕ
words_in ram address count = map (λ i. word_of ram (address / 4 + i)) (range_with_len 0 count)

-- the same at a step
abbrev pub words_shown : Kept → ℕ → ℕ → ℕ → List ℕ
words_shown k n address count = words_in (machine_state k n).memory.ram address count

-- the bytes put out at the console below a step
abbrev pub output_shown : Kept → ℕ → List ℕ
output_shown k n = (machine_state k n).memory.output
