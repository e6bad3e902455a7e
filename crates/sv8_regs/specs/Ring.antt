-- The registers as a caller sees them: globals, and one ring of 16 words a window.
use Rattle.std.specs.Prelude.{ℕ, true, false, ◌+◌, ◌*◌, ◌-◌, ◌%◌, ◌/◌, ◌==◌, nat_lt, if◌then◌else◌, List, [], map, replicate, slice_index, slice_index_or, slice_set}
use Rattle.std.specs.List.{range_with_len}
use Rattle.sv8_regs.specs.declared.Psr.{Psr}

pub record Registers : Type 0 where
  pub globals : List ℕ
  pub ring : List ℕ
  pub cwp : ℕ
  pub psr : Psr
  pub wim : ℕ
  pub tbr : ℕ
  pub y : ℕ

-- the words of the rows, 16 of each, one after the other
abbrev pub flat : ℕ → List (List ℕ) → List ℕ
flat windows rows = map (λ k. slice_index (slice_index_or rows (k / 16) []) (k % 16)) (range_with_len 0 (16 * windows))

-- where register i of a window, 8 to 31, stands in the ring
abbrev pub place : ℕ → ℕ → ℕ → ℕ
place windows cwp i = (16 * cwp + i - 8) % (16 * windows)

-- register i of the current window
abbrev pub read : ℕ → Registers → ℕ → ℕ
read windows s i =
    if i == 0 then 0 else (if nat_lt i 8 then slice_index s.globals i else slice_index s.ring (place windows s.cwp i))

-- a write of register i of the current window
abbrev pub write : ℕ → Registers → ℕ → ℕ → Registers
write windows s i v =
    if i == 0 then s else (if nat_lt i 8 then record s { globals = slice_set s.globals i v } else record s { ring = slice_set s.ring (place windows s.cwp i) v })

abbrev pub reset : ℕ → Registers
reset windows = record {
  globals = replicate 8 0;
  ring = replicate (16 * windows) 0;
  cwp = 0;
  psr = record { n = false; z = false; v = false; c = false; pil = 0; s = true; ps = false; et = false };
  wim = 0;
  tbr = 0;
  y = 0;
}
