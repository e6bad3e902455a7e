-- What the operand fields of a word stand for.
use Rattle.std.specs.Prelude.{ℕ, pos, ◌==◌, if◌then◌else◌, List, [], ◌∷◌, slice_index_or}
use Rattle.sv8_model.specs.Words.{field, signed}
use Rattle.sv8_isa.specs.declared.instr.Operand.{Operand}
use Rattle.sv8_isa.specs.declared.instr.Operand.TheVariants.{Register, Immediate}
use Rattle.sv8_isa.specs.declared.instr.Cond.{Cond}
use Rattle.sv8_isa.specs.declared.instr.Cond.TheVariants.{Never, Equal, LessOrEqual, Less, LessOrEqualUnsigned, CarrySet, Negative, OverflowSet, Always, NotEqual, Greater, GreaterOrEqual, GreaterUnsigned, CarryClear, Positive, OverflowClear}

-- r[rs2], or simm13 where i = 1
unfoldable pub operand_of : ℕ → Operand
operand_of w = if field w 13 13 == 1 then Immediate (signed (field w 12 0) 13) else Register (field w 4 0)

-- r[rs2], or bits 4:0 where i = 1
unfoldable pub count_of : ℕ → Operand
count_of w = if field w 13 13 == 1 then Immediate (pos (field w 4 0)) else Register (field w 4 0)

-- r[rs2], or bits 6:0 where i = 1
unfoldable pub trap_number_of : ℕ → Operand
trap_number_of w = if field w 13 13 == 1 then Immediate (pos (field w 6 0)) else Register (field w 4 0)

-- the conditions, in the order of their codes
abbrev pub conditions : List Cond
conditions =
    Never ∷ Equal ∷ LessOrEqual ∷ Less ∷ LessOrEqualUnsigned ∷ CarrySet ∷ Negative ∷ OverflowSet
    ∷ Always ∷ NotEqual ∷ Greater ∷ GreaterOrEqual ∷ GreaterUnsigned ∷ CarryClear ∷ Positive ∷ OverflowClear
    ∷ []

-- the condition of a code
unfoldable pub condition_of : ℕ → Cond
condition_of code = slice_index_or conditions code OverflowClear
