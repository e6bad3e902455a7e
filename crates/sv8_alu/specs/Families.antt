-- The families of instructions whose forms are signed or not, or trap or not.
use Rattle.std.specs.Prelude.{ℕ, Option, Some, None, if◌then◌else◌}
use Rattle.sv8_alu.specs.declared.Answer.{Answer}
use Rattle.sv8_alu.specs.declared.Product.{Product}
use Rattle.sv8_alu.specs.declared.Signedness.{Signedness}
use Rattle.sv8_alu.specs.declared.Signedness.TheVariants.{Unsigned, Signed}
use Rattle.sv8_alu.specs.declared.TaggedForm.{TaggedForm}
use Rattle.sv8_alu.specs.declared.TaggedForm.TheVariants.{Add, AddTrapping, Sub, SubTrapping}
use Rattle.sv8_alu.specs.Arithmetic.{tagged_sum_of, tagged_difference_of, product_of, signed_product_of, quotient_of, signed_quotient_of}

-- a form that traps gives nothing where V would be set
abbrev pub unless_overflow : Answer → Option Answer
unless_overflow a = if a.icc.v then None else Some a

-- TADDcc, TADDccTV (B.14), TSUBcc, TSUBccTV (B.16)
abbrev pub tagged_answer : TaggedForm → ℕ → ℕ → Option Answer
tagged_answer Add x y = Some (tagged_sum_of x y)
tagged_answer AddTrapping x y = unless_overflow (tagged_sum_of x y)
tagged_answer Sub x y = Some (tagged_difference_of x y)
tagged_answer SubTrapping x y = unless_overflow (tagged_difference_of x y)

-- UMUL, UMULcc, SMUL, SMULcc (B.18)
abbrev pub product_as : Signedness → ℕ → ℕ → Product
product_as Unsigned x y = product_of x y
product_as Signed x y = signed_product_of x y

-- UDIV, UDIVcc, SDIV, SDIVcc (B.19)
abbrev pub quotient_as : Signedness → ℕ → ℕ → ℕ → Option Answer
quotient_as Unsigned high low divisor = quotient_of high low divisor
quotient_as Signed high low divisor = signed_quotient_of high low divisor
