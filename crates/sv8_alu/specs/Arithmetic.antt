-- What each operation of Appendix B.11 to B.19 gives, as formulas over whole numbers.
use Rattle.std.specs.Prelude.{ℕ, ℤ, pos, Bool, false, ◌+◌, ◌*◌, ◌-◌, ◌%◌, ◌/◌, ◌^◌, ◌==◌, ◌||◌, not, nat_lt, nat_le, min, if◌then◌else◌, Option, Some, None, ◌+ℤ◌, ◌-ℤ◌, int_div, bit_and, bit_or, bit_xor}
use Rattle.sv8_model.specs.Words.{digit, signed, low_bits}
use Rattle.sv8_alu.specs.declared.Icc.{Icc}
use Rattle.sv8_alu.specs.declared.Answer.{Answer}
use Rattle.sv8_alu.specs.declared.Product.{Product}
use Rattle.sv8_alu.specs.declared.Step.{Step}
use Rattle.sv8_alu.specs.declared.ShiftForm.{ShiftForm}
use Rattle.sv8_alu.specs.declared.ShiftForm.TheVariants.{LeftLogical, RightLogical, RightArithmetic}
use Rattle.sv8_alu.specs.declared.Logical.{Logical}
use Rattle.sv8_alu.specs.declared.Logical.TheVariants.{And, Andn, Or, Orn, Xor, Xnor}
use lib.Signed.{lt_z}
use lib.IntN.{◌*ℤ◌}

-- a number outside -2^31 to 2^31 - 1, the range of signed words
abbrev pub is_outside : ℤ → Bool
is_outside z = lt_z z (pos 0 -ℤ pos (2 ^ 31)) || lt_z (pos (2 ^ 31 - 1)) z

-- the condition codes: N is bit 31 of the value, Z tells that it is 0 (section 4.2, the icc field)
abbrev pub icc_of : ℕ → Bool → Bool → Icc
icc_of value overflow carry = record { n = nat_le (2 ^ 31) value; z = value == 0; v = overflow; c = carry }

-- the condition codes with V = C = 0
abbrev pub plain_icc : ℕ → Icc
plain_icc value = icc_of value false false

-- ADD, ADDX and their cc forms (B.13): V where the sum of the signed words is no signed word, C where that of the unsigned ones is 2^32 or more
abbrev pub sum_of : ℕ → ℕ → Bool → Answer
sum_of x y carry =
    let value = (x + y + digit carry) % 2 ^ 32 in
    record { value = value; icc = icc_of value (is_outside (signed x 32 +ℤ signed y 32 +ℤ pos (digit carry))) (nat_le (2 ^ 32) (x + y + digit carry)) }

-- SUB, SUBX and their cc forms (B.15): V where the difference of the signed words is no signed word, C where it borrows
abbrev pub difference_of : ℕ → ℕ → Bool → Answer
difference_of x y carry =
    let value = (x + (2 ^ 32 - (y + digit carry))) % 2 ^ 32 in
    record { value = value; icc = icc_of value (is_outside (signed x 32 -ℤ signed y 32 -ℤ pos (digit carry))) (nat_lt x (y + digit carry)) }

-- V is also set where bits 1:0 of an operand are not 0 (B.14, B.16)
abbrev pub with_tags : ℕ → ℕ → Answer → Answer
with_tags x y a = record a { icc = record a.icc { v = a.icc.v || not (x % 4 == 0) || not (y % 4 == 0) } }

-- TADDcc and TADDccTV (B.14)
abbrev pub tagged_sum_of : ℕ → ℕ → Answer
tagged_sum_of x y = with_tags x y (sum_of x y false)

-- TSUBcc and TSUBccTV (B.16)
abbrev pub tagged_difference_of : ℕ → ℕ → Answer
tagged_difference_of x y = with_tags x y (difference_of x y false)

-- a 64-bit product as two words, with the condition codes of the low one (B.18)
abbrev pub double_word : ℕ → Product
double_word p = record { high = p / 2 ^ 32; low = record { value = p % 2 ^ 32; icc = plain_icc (p % 2 ^ 32) } }

-- UMUL, UMULcc (B.18)
abbrev pub product_of : ℕ → ℕ → Product
product_of x y = double_word (x * y)

-- SMUL, SMULcc (B.18)
abbrev pub signed_product_of : ℕ → ℕ → Product
signed_product_of x y = double_word (low_bits (signed x 32 *ℤ signed y 32) 64)

-- UDIV, UDIVcc (B.19): None where the divisor is 0; a quotient of 2^32 or more gives 2^32 - 1 and V
abbrev pub quotient_of : ℕ → ℕ → ℕ → Option Answer
quotient_of high low divisor =
    let q = (high * 2 ^ 32 + low) / divisor in
    let value = min q (2 ^ 32 - 1) in
    if divisor == 0 then None else Some (record { value = value; icc = icc_of value (nat_le (2 ^ 32) q) false })

-- the nearest number from -2^31 to 2^31 - 1
abbrev pub clamped : ℤ → ℤ
clamped z = if lt_z z (pos 0 -ℤ pos (2 ^ 31)) then (pos 0 -ℤ pos (2 ^ 31)) else (if lt_z (pos (2 ^ 31 - 1)) z then pos (2 ^ 31 - 1) else z)

-- SDIV, SDIVcc (B.19): None where the divisor is 0; the quotient is rounded towards 0, and V where it is no signed word
abbrev pub signed_quotient_of : ℕ → ℕ → ℕ → Option Answer
signed_quotient_of high low divisor =
    let q = int_div (signed (high * 2 ^ 32 + low) 64) (signed divisor 32) in
    let value = low_bits (clamped q) 32 in
    if divisor == 0 then None else Some (record { value = value; icc = icc_of value (is_outside q) false })

-- the first operand of MULScc (B.17): N xor V, followed by bits 31:1 of r[rs1]
abbrev pub shifted_operand : ℕ → Icc → ℕ
shifted_operand x icc = (if icc.n then digit (not icc.v) else digit icc.v) * 2 ^ 31 + x / 2

-- the second operand of MULScc (B.17): 0 where bit 0 of Y is 0
abbrev pub chosen_operand : ℕ → ℕ → ℕ
chosen_operand y operand = if y % 2 == 0 then 0 else operand

-- MULScc (B.17): the sum of the two, and Y as bit 0 of r[rs1] followed by bits 31:1 of the old Y
abbrev pub step_of : ℕ → ℕ → ℕ → Icc → Step
step_of x operand y icc = record {
  sum = sum_of (shifted_operand x icc) (chosen_operand y operand) false;
  y = x % 2 * 2 ^ 31 + y / 2;
}

-- how far a shift goes (B.12): the low five bits of the operand
abbrev pub shift_count : ℕ → ℕ
shift_count operand = operand % 2 ^ 5

-- SLL, SRL, SRA (B.12): a word times or divided by 2^count; the division of a signed one is rounded down
abbrev pub shifted_by : ShiftForm → ℕ → ℕ → ℕ
shifted_by LeftLogical x operand = x * 2 ^ shift_count operand % 2 ^ 32
shifted_by RightLogical x operand = x / 2 ^ shift_count operand
shifted_by RightArithmetic x operand = if nat_lt x (2 ^ 31) then x / 2 ^ shift_count operand else (2 ^ 32 - 1 - (2 ^ 32 - 1 - x) / 2 ^ shift_count operand)

-- a word with each bit turned
abbrev pub complement : ℕ → ℕ
complement y = 2 ^ 32 - 1 - y

-- the logical instructions (B.11); ANDN, ORN and XNOR complement the second operand
abbrev pub logic_of : Logical → ℕ → ℕ → ℕ
logic_of And x y = bit_and x y
logic_of Andn x y = bit_and x (complement y)
logic_of Or x y = bit_or x y
logic_of Orn x y = bit_or x (complement y)
logic_of Xor x y = bit_xor x y
logic_of Xnor x y = bit_xor x (complement y)

-- the cc forms of the logical instructions (B.11): V = C = 0
abbrev pub logical_answer : Logical → ℕ → ℕ → Answer
logical_answer form x y = record { value = logic_of form x y; icc = plain_icc (logic_of form x y) }
