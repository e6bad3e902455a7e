-- Small machines whose steps can be computed.
use Rattle.std.specs.Prelude.{ℕ, zero, suc, false, List, [], ◌∷◌, replicate}
use Rattle.sv8_model.specs.Outside.{Outside}
use Rattle.sv8_model.specs.Action.{result_of, after}
use Rattle.sv8_mmu.specs.Registers.{registers_at_reset}
use Rattle.sv8_trap.specs.Processor.{reset_processor}
use Rattle.sv8_cpu.specs.Step.{Inner, action}

-- 16 bytes of RAM: mov 5, %g1; add %g1, 1, %g2; ba 0; nop
abbrev pub counting : List ℕ
counting = 0x82 ∷ 0x10 ∷ 0x20 ∷ 0x05 ∷ 0x84 ∷ 0x00 ∷ 0x60 ∷ 0x01 ∷ 0x10 ∷ 0xbf ∷ 0xff ∷ 0xfe ∷ 0x01 ∷ 0x00 ∷ 0x00 ∷ 0x00 ∷ []

-- 8 bytes of RAM: ba,a 0; unimp 0
abbrev pub spinning : List ℕ
spinning = 0x30 ∷ 0x80 ∷ 0x00 ∷ 0x00 ∷ 0x00 ∷ 0x00 ∷ 0x00 ∷ 0x00 ∷ []

-- 12 bytes of RAM: wr %g0, 0xa0, %psr; mov 2, %g1; taddcctv %g1, 4, %g2
abbrev pub tagging : List ℕ
tagging = 0x81 ∷ 0x88 ∷ 0x20 ∷ 0xa0 ∷ 0x82 ∷ 0x10 ∷ 0x20 ∷ 0x02 ∷ 0x85 ∷ 0x10 ∷ 0x60 ∷ 0x04 ∷ []

-- 8 bytes of RAM: rett 0x20; ta 0
abbrev pub returning : List ℕ
returning = 0x81 ∷ 0xc8 ∷ 0x20 ∷ 0x20 ∷ 0x91 ∷ 0xd0 ∷ 0x20 ∷ 0x00 ∷ []

-- 32 bytes of RAM: ld [0x18], %g1; ldsb [0x18], %g2; sth %g1, [0x1c]; swap [0x1c], %g2; ldstub [0x18], %g3; nop; and two words
abbrev pub moving : List ℕ
moving =
    0xc2 ∷ 0x00 ∷ 0x20 ∷ 0x18 ∷ 0xc4 ∷ 0x48 ∷ 0x20 ∷ 0x18 ∷ 0xc2 ∷ 0x30 ∷ 0x20 ∷ 0x1c ∷ 0xc4 ∷ 0x78 ∷ 0x20 ∷ 0x1c
    ∷ 0xc6 ∷ 0x68 ∷ 0x20 ∷ 0x18 ∷ 0x01 ∷ 0x00 ∷ 0x00 ∷ 0x00 ∷ 0x80 ∷ 0x01 ∷ 0x02 ∷ 0x03 ∷ 0x11 ∷ 0x22 ∷ 0x33 ∷ 0x44 ∷ []

-- 16 bytes of RAM: mov 7, %o0; save %o0, 1, %l0; restore %l0, 1, %o1; nop
abbrev pub saving : List ℕ
saving = 0x90 ∷ 0x10 ∷ 0x20 ∷ 0x07 ∷ 0xa1 ∷ 0xe2 ∷ 0x20 ∷ 0x01 ∷ 0x93 ∷ 0xec ∷ 0x20 ∷ 0x01 ∷ 0x01 ∷ 0x00 ∷ 0x00 ∷ 0x00 ∷ []

-- 16 bytes of RAM: wr %g0, 5, %y; rd %y, %g1; wr %g0, 0xff, %wim; rd %wim, %g2
abbrev pub setting : List ℕ
setting = 0x81 ∷ 0x80 ∷ 0x20 ∷ 0x05 ∷ 0x83 ∷ 0x40 ∷ 0x00 ∷ 0x00 ∷ 0x81 ∷ 0x90 ∷ 0x20 ∷ 0xff ∷ 0x85 ∷ 0x50 ∷ 0x00 ∷ 0x00 ∷ []

-- 16 bytes of RAM: call 8; nop; jmpl %o7, %g2; nop
abbrev pub calling : List ℕ
calling = 0x40 ∷ 0x00 ∷ 0x00 ∷ 0x02 ∷ 0x01 ∷ 0x00 ∷ 0x00 ∷ 0x00 ∷ 0x85 ∷ 0xc3 ∷ 0xe0 ∷ 0x00 ∷ 0x01 ∷ 0x00 ∷ 0x00 ∷ 0x00 ∷ []

-- a machine at rest, and its outside
pub record Small : Type 0 where
  pub inner : Inner
  pub outside : Outside

abbrev pub fresh : ℕ → List ℕ → Small
fresh windows ram = record {
  inner = record {
    processor = reset_processor windows;
    units = record { mmu = registers_at_reset; timer = record { count = 0; reload = 0 } };
  };
  outside = record { ram = ram; waiting = []; output = []; pending = replicate 16 false };
}

-- one step without events
abbrev pub stepped : ℕ → ℕ → Small → Small
stepped windows size s = record { inner = result_of (action windows size s.inner) s.outside; outside = after (action windows size s.inner) s.outside }

-- its state after n steps over a RAM of so many bytes
abbrev pub run : ℕ → ℕ → List ℕ → ℕ → Small
run windows size ram zero = fresh windows ram
run windows size ram (suc n) = stepped windows size (run windows size ram n)
