-- Values of expressions, and the ranges that they are to lie in.
use Rattle.std.specs.Prelude.{ℕ, ℤ, pos, ◌-◌, ◌/◌, ◌%◌, ◌^◌, ◌+ℤ◌, ◌-ℤ◌, neg_ℤ, Bool, ◌||◌, ◌==◌, Option, Some, None, Result, Ok, Err, if◌then◌else◌, int_div}
use Rattle.std.specs.Int.Signed.{lt_z}
use Rattle.sv8_statements.specs.declared.fault.LineFault.{LineFault}
use Rattle.sv8_statements.specs.declared.fault.LineFault.TheVariants.{UnknownName, OutOfRange, BadAlignment}
use Rattle.sv8_statements.specs.declared.value.Expr.{Expr}
use Rattle.sv8_statements.specs.declared.value.Expr.TheVariants as expr
use Rattle.sv8_model.specs.Words.{word_of_number, signed}
use Rattle.sv8_asm.specs.Names.{Names, get}

-- a value and a number that is added to it
abbrev pub moved_by : ℤ → Option ℤ → Option ℤ
moved_by n None = None
moved_by n (Some v) = Some (v +ℤ n)

-- the value of an expression in a line, a whole number; none where its name has none
abbrev pub value_of : Names → ℕ → Expr → Option ℤ
value_of names line (expr.Number n) = Some (pos n)
value_of names line (expr.Minus n) = Some (neg_ℤ (pos n))
value_of names line (expr.Name w) = get names w line
value_of names line (expr.Plus w n) = moved_by (pos n) (get names w line)
value_of names line (expr.Less w n) = moved_by (neg_ℤ (pos n)) (get names w line)

-- below the least number of a range, or above the greatest
abbrev pub is_outside : ℤ → ℤ → ℤ → Bool
is_outside least most v = lt_z v least || lt_z most v

-- the value, where it is known and in its range
abbrev pub within : ℤ → ℤ → Option ℤ → Result ℤ LineFault
within least most None = Err UnknownName
within least most (Some v) = if is_outside least most v then Err OutOfRange else Ok v

-- a value becomes a word
abbrev pub as_word : Result ℤ LineFault → Result ℕ LineFault
as_word (Ok v) = Ok (word_of_number v)
as_word (Err e) = Err e

-- the word of a value from -2^31 to 2^32 - 1
abbrev pub word_of : Names → ℕ → Expr → Result ℕ LineFault
word_of names line e = as_word (within (neg_ℤ (pos (2 ^ 31))) (pos (2 ^ 32 - 1)) (value_of names line e))

-- the field disp22 of a branch over so many bytes (Appendix B.21): whole words, from -2^21 to 2^21 - 1
abbrev pub whole_words : ℤ → Result ℤ LineFault
whole_words d =
    if is_outside (neg_ℤ (pos (2 ^ 23))) (pos (2 ^ 23 - 4)) d then Err OutOfRange
    else (if word_of_number d % 4 == 0 then Ok (int_div d (pos 4)) else Err BadAlignment)

-- the field disp22 of a branch from its own address to a target
abbrev pub displacement : ℕ → Option ℤ → Result ℤ LineFault
displacement at None = Err UnknownName
displacement at (Some target) = whole_words (target -ℤ pos at)

-- a target that CALL can reach
abbrev pub call_target : Names → ℕ → Expr → Result ℤ LineFault
call_target names line e = within (neg_ℤ (pos (2 ^ 31))) (pos (2 ^ 32 - 1)) (value_of names line e)

-- the field disp30 of CALL over so many bytes (Appendix B.24): whole words modulo 2^30
abbrev pub call_words : ℤ → Result ℤ LineFault
call_words d = if word_of_number d % 4 == 0 then Ok (signed (word_of_number d / 4) 30) else Err BadAlignment

-- the field disp30 of CALL from its own address to a target
abbrev pub call_displacement : ℕ → Result ℤ LineFault → Result ℤ LineFault
call_displacement at (Err e) = Err e
call_displacement at (Ok target) = call_words (target -ℤ pos at)
