-- Control transfer (Appendices B.21 and B.24 to B.27).
use Rattle.std.specs.Prelude.{ℕ, ℤ, ◌*◌, ◌%◌, ◌^◌, ◌==◌, Bool, true, false, not, ◌&&◌, ◌||◌, List, [], ◌∷◌, ◌++◌, if◌then◌else◌}
use Rattle.sv8_isa.specs.declared.instr.Operand.{Operand}
use Rattle.sv8_isa.specs.declared.instr.Cond.{Cond}
use Rattle.sv8_isa.specs.declared.instr.Cond.TheVariants.{Never, Equal, LessOrEqual, Less, LessOrEqualUnsigned, CarrySet, Negative, OverflowSet, Always, NotEqual, Greater, GreaterOrEqual, GreaterUnsigned, CarryClear, Positive, OverflowClear}
use Rattle.sv8_model.specs.Words.{word_of_number, bit}
use Rattle.sv8_regs.specs.Control.{above}
use Rattle.sv8_regs.specs.declared.Psr.{Psr}
use Rattle.sv8_trap.specs.declared.table.Trap.{Trap}
use Rattle.sv8_trap.specs.declared.table.Trap.TheVariants.{PrivilegedInstruction, IllegalInstruction, WindowUnderflow, MemAddressNotAligned, TrapInstruction}
use Rattle.sv8_trap.specs.Processor.{Processor, plus, transferred, with_register}
use Rattle.sv8_iu.specs.Operands.{sum_of_sources, when}

-- ---- conditions

-- N and V differ: the first of two compared signed numbers is the lower one
abbrev pub is_less : Psr → Bool
is_less psr = if psr.n then not psr.v else psr.v

-- a condition holds for the condition codes; the second eight are the negations of the first (B.21)
unfoldable pub holds : Cond → Psr → Bool
holds Never psr = false
holds Equal psr = psr.z
holds LessOrEqual psr = psr.z || is_less psr
holds Less psr = is_less psr
holds LessOrEqualUnsigned psr = psr.c || psr.z
holds CarrySet psr = psr.c
holds Negative psr = psr.n
holds OverflowSet psr = psr.v
holds Always psr = true
holds NotEqual psr = not psr.z
holds Greater psr = not (psr.z || is_less psr)
holds GreaterOrEqual psr = not (is_less psr)
holds GreaterUnsigned psr = not (psr.c || psr.z)
holds CarryClear psr = not psr.c
holds Positive psr = not psr.n
holds OverflowClear psr = not psr.v

abbrev pub is_always : Cond → Bool
is_always Always = true
is_always cond = false

-- ---- branches (B.21)

-- the distance in bytes of a displacement in words
abbrev pub distance : ℤ → ℕ
distance displacement = word_of_number displacement * 4 % 2 ^ 32

-- the target follows the delay slot where the condition holds; with a = 1 the slot is annulled by BA, and by every branch that is not taken
unfoldable pub branched : Processor → Cond → Bool → ℤ → Processor
branched p cond annul disp22 =
    if holds cond p.registers.psr
    then transferred p (plus p.pc (distance disp22)) (annul && is_always cond)
    else transferred p (plus p.npc 4) annul

-- ---- CALL (B.24) and JMPL (B.25)

unfoldable pub called : ℕ → Processor → ℤ → Processor
called windows p disp30 = transferred (with_register windows p 15 p.pc) (plus p.pc (distance disp30)) false

abbrev pub is_misaligned : ℕ → Bool
is_misaligned address = not (address % 4 == 0)

abbrev pub jump_traps : ℕ → Processor → ℕ → Operand → List Trap
jump_traps windows p rs1 operand = when (is_misaligned (sum_of_sources windows p rs1 operand)) MemAddressNotAligned

unfoldable pub jumped : ℕ → Processor → ℕ → ℕ → Processor
jumped windows p rd target = transferred (with_register windows p rd p.pc) target false

-- ---- RETT (B.26)

-- where traps are on it is privileged, and no instruction of a handler; where they are off, each of these leads to error mode
unfoldable pub return_traps : ℕ → Processor → ℕ → Operand → List Trap
return_traps windows p rs1 operand =
    if p.registers.psr.et
    then (if p.registers.psr.s then IllegalInstruction ∷ [] else PrivilegedInstruction ∷ [])
    else when (not p.registers.psr.s) PrivilegedInstruction
    ++ when (bit p.registers.wim (above windows p.registers.cwp)) WindowUnderflow
    ++ when (is_misaligned (sum_of_sources windows p rs1 operand)) MemAddressNotAligned

-- ---- Ticc (B.27)

-- its number is the low seven bits of the sum of its sources
unfoldable pub number_traps : ℕ → Processor → Cond → ℕ → Operand → List Trap
number_traps windows p cond rs1 operand = when (holds cond p.registers.psr) (TrapInstruction (sum_of_sources windows p rs1 operand % 2 ^ 7))
