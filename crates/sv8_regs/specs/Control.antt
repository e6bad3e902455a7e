-- The control and status registers: chapter 4, section 4.2.
use Rattle.std.specs.Prelude.{ℕ, ◌+◌, ◌*◌, ◌-◌, ◌%◌, ◌/◌, ◌^◌, Option, None, Some, nat_lt, if◌then◌else◌}
use Rattle.sv8_model.specs.Words.{bit, digit}
use Rattle.sv8_regs.specs.declared.Psr.{Psr}
use Rattle.sv8_regs.specs.declared.ConditionCodes.{ConditionCodes}

-- PSR: N 23, Z 22, V 21, C 20, PIL 11:8, S 7, PS 6, ET 5, CWP 4:0; every other bit reads 0
abbrev pub packed_psr : Psr → ℕ → ℕ
packed_psr p cwp =
    digit p.n * 2 ^ 23 + digit p.z * 2 ^ 22 + digit p.v * 2 ^ 21 + digit p.c * 2 ^ 20 + p.pil * 2 ^ 8 + digit p.s * 2 ^ 7 + digit p.ps * 2 ^ 6 + digit p.et * 2 ^ 5 + cwp

-- the fields of a PSR word, but for CWP
abbrev pub unpacked_psr : ℕ → Psr
unpacked_psr word = record {
  n = bit word 23;
  z = bit word 22;
  v = bit word 21;
  c = bit word 20;
  pil = word / 2 ^ 8 % 2 ^ 4;
  s = bit word 7;
  ps = bit word 6;
  et = bit word 5;
}

-- the PIL of a number, where it is one of the four bits of that field
abbrev pub pil_of : ℕ → Option ℕ
pil_of number = if nat_lt number 16 then Some number else None

-- CWP, bits 4:0 of a PSR word
abbrev pub window_field : ℕ → ℕ
window_field word = word % 2 ^ 5

-- what WIM keeps of a word: a bit for each window
abbrev pub kept_mask : ℕ → ℕ → ℕ
kept_mask windows word = word % 2 ^ windows

-- TBR with TBA, bits 31:12, taken from a word; the trap type stays
abbrev pub with_base : ℕ → ℕ → ℕ
with_base tbr word = word / 2 ^ 12 * 2 ^ 12 + tbr % 2 ^ 12

-- TBR with another trap type in bits 11:4; TBA stays and bits 3:0 are zeros
abbrev pub with_trap_type : ℕ → ℕ → ℕ
with_trap_type tbr trap_type = tbr / 2 ^ 12 * 2 ^ 12 + trap_type * 2 ^ 4

-- the window that SAVE and a trap go to
abbrev pub below : ℕ → ℕ → ℕ
below windows cwp = (cwp + windows - 1) % windows

-- the window that RESTORE and RETT go to
abbrev pub above : ℕ → ℕ → ℕ
above windows cwp = (cwp + 1) % windows

-- N, Z, V and C of the PSR
abbrev pub condition_codes : Psr → ConditionCodes
condition_codes p = record { n = p.n; z = p.z; v = p.v; c = p.c }

-- the PSR with other condition codes
abbrev pub with_condition_codes : ConditionCodes → Psr → Psr
with_condition_codes codes p = record p { n = codes.n; z = codes.z; v = codes.v; c = codes.c }
