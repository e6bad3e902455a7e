-- Answers written out, for the examples that are computed.
use Rattle.std.specs.Prelude.{ℕ, Bool}
use Rattle.sv8_alu.specs.declared.Icc.{Icc}
use Rattle.sv8_alu.specs.declared.Answer.{Answer}

-- condition codes: N, Z, V, C
abbrev pub codes : Bool → Bool → Bool → Bool → Icc
codes n z v c = record { n = n; z = z; v = v; c = c }

-- a value with its condition codes
abbrev pub answer : ℕ → Icc → Answer
answer value icc = record { value = value; icc = icc }
