-- The mnemonics, of Appendix A and of directives.
use Rattle.std.specs.Prelude.{ℕ, List, [], ◌∷◌, Option, codes, true, false}
use Rattle.std.specs.Option.{option_or}
use Rattle.sv8_isa.specs.declared.instr.ArithOp.TheVariants as arith
use Rattle.sv8_isa.specs.declared.instr.Cond.TheVariants as condition
use Rattle.sv8_isa.specs.declared.instr.MemoryOp.TheVariants as memory
use Rattle.sv8_isa.specs.declared.instr.ShiftOp.TheVariants as shift
use Rattle.sv8_isa.specs.declared.instr.TaggedOp.TheVariants as tagged
use Rattle.sv8_statements.specs.declared.statement.Operation.TheVariants as operation
use Rattle.sv8_statements.specs.declared.statement.Motion.TheVariants as motion
use Rattle.sv8_statements.specs.declared.register.Register.TheVariants as r
use Rattle.sv8_statements.specs.declared.statement.Width.TheVariants as width
use Rattle.sv8_statements.specs.Table.{Row, row, look_up}
use Rattle.sv8_forms.specs.declared.mnemonic.Directive.TheVariants as directive
use Rattle.sv8_forms.specs.declared.mnemonic.Shape.{Shape}
use Rattle.sv8_forms.specs.declared.mnemonic.Shape.TheVariants as shape

-- arithmetic, loads and stores, and state registers
unfoldable pub operations : List (Row Shape)
operations =
    row (codes "add") (shape.Three (operation.Arith arith.Add false)) ∷
    row (codes "addcc") (shape.Three (operation.Arith arith.Add true)) ∷
    row (codes "sub") (shape.Three (operation.Arith arith.Sub false)) ∷
    row (codes "subcc") (shape.Three (operation.Arith arith.Sub true)) ∷
    row (codes "addx") (shape.Three (operation.Arith arith.Addx false)) ∷
    row (codes "addxcc") (shape.Three (operation.Arith arith.Addx true)) ∷
    row (codes "subx") (shape.Three (operation.Arith arith.Subx false)) ∷
    row (codes "subxcc") (shape.Three (operation.Arith arith.Subx true)) ∷
    row (codes "and") (shape.Three (operation.Arith arith.And false)) ∷
    row (codes "andcc") (shape.Three (operation.Arith arith.And true)) ∷
    row (codes "andn") (shape.Three (operation.Arith arith.Andn false)) ∷
    row (codes "andncc") (shape.Three (operation.Arith arith.Andn true)) ∷
    row (codes "or") (shape.Three (operation.Arith arith.Or false)) ∷
    row (codes "orcc") (shape.Three (operation.Arith arith.Or true)) ∷
    row (codes "orn") (shape.Three (operation.Arith arith.Orn false)) ∷
    row (codes "orncc") (shape.Three (operation.Arith arith.Orn true)) ∷
    row (codes "xor") (shape.Three (operation.Arith arith.Xor false)) ∷
    row (codes "xorcc") (shape.Three (operation.Arith arith.Xor true)) ∷
    row (codes "xnor") (shape.Three (operation.Arith arith.Xnor false)) ∷
    row (codes "xnorcc") (shape.Three (operation.Arith arith.Xnor true)) ∷
    row (codes "umul") (shape.Three (operation.Arith arith.Umul false)) ∷
    row (codes "umulcc") (shape.Three (operation.Arith arith.Umul true)) ∷
    row (codes "smul") (shape.Three (operation.Arith arith.Smul false)) ∷
    row (codes "smulcc") (shape.Three (operation.Arith arith.Smul true)) ∷
    row (codes "udiv") (shape.Three (operation.Arith arith.Udiv false)) ∷
    row (codes "udivcc") (shape.Three (operation.Arith arith.Udiv true)) ∷
    row (codes "sdiv") (shape.Three (operation.Arith arith.Sdiv false)) ∷
    row (codes "sdivcc") (shape.Three (operation.Arith arith.Sdiv true)) ∷
    row (codes "taddcc") (shape.Three (operation.Tagged tagged.TaddCc)) ∷
    row (codes "taddcctv") (shape.Three (operation.Tagged tagged.TaddCcTv)) ∷
    row (codes "tsubcc") (shape.Three (operation.Tagged tagged.TsubCc)) ∷
    row (codes "tsubcctv") (shape.Three (operation.Tagged tagged.TsubCcTv)) ∷
    row (codes "mulscc") (shape.Three operation.Mulscc) ∷
    row (codes "save") (shape.Three operation.Save) ∷
    row (codes "restore") (shape.Three operation.Restore) ∷
    row (codes "sll") (shape.Shift shift.Sll) ∷
    row (codes "srl") (shape.Shift shift.Srl) ∷
    row (codes "sra") (shape.Shift shift.Sra) ∷
    row (codes "ldsb") (shape.Load memory.Ldsb) ∷
    row (codes "ldsh") (shape.Load memory.Ldsh) ∷
    row (codes "ldub") (shape.Load memory.Ldub) ∷
    row (codes "lduh") (shape.Load memory.Lduh) ∷
    row (codes "ld") (shape.Load memory.Ld) ∷
    row (codes "ldd") (shape.Load memory.Ldd) ∷
    row (codes "ldstub") (shape.Load memory.Ldstub) ∷
    row (codes "swap") (shape.Load memory.Swap) ∷
    row (codes "stb") (shape.Store memory.Stb) ∷
    row (codes "sth") (shape.Store memory.Sth) ∷
    row (codes "st") (shape.Store memory.St) ∷
    row (codes "std") (shape.Store memory.Std) ∷
    row (codes "ldsba") (shape.LoadAlternate memory.Ldsb) ∷
    row (codes "ldsha") (shape.LoadAlternate memory.Ldsh) ∷
    row (codes "lduba") (shape.LoadAlternate memory.Ldub) ∷
    row (codes "lduha") (shape.LoadAlternate memory.Lduh) ∷
    row (codes "lda") (shape.LoadAlternate memory.Ld) ∷
    row (codes "ldda") (shape.LoadAlternate memory.Ldd) ∷
    row (codes "ldstuba") (shape.LoadAlternate memory.Ldstub) ∷
    row (codes "swapa") (shape.LoadAlternate memory.Swap) ∷
    row (codes "stba") (shape.StoreAlternate memory.Stb) ∷
    row (codes "stha") (shape.StoreAlternate memory.Sth) ∷
    row (codes "sta") (shape.StoreAlternate memory.St) ∷
    row (codes "stda") (shape.StoreAlternate memory.Std) ∷
    row (codes "sethi") shape.Sethi ∷
    row (codes "rd") shape.Read ∷
    row (codes "wr") shape.Write ∷ []

-- branches, traps and jumps, and what needs no register
unfoldable pub transfers : List (Row Shape)
transfers =
    row (codes "ba") (shape.Branch condition.Always false) ∷
    row (codes "b") (shape.Branch condition.Always false) ∷
    row (codes "bn") (shape.Branch condition.Never false) ∷
    row (codes "bne") (shape.Branch condition.NotEqual false) ∷
    row (codes "bnz") (shape.Branch condition.NotEqual false) ∷
    row (codes "be") (shape.Branch condition.Equal false) ∷
    row (codes "bz") (shape.Branch condition.Equal false) ∷
    row (codes "bg") (shape.Branch condition.Greater false) ∷
    row (codes "ble") (shape.Branch condition.LessOrEqual false) ∷
    row (codes "bge") (shape.Branch condition.GreaterOrEqual false) ∷
    row (codes "bl") (shape.Branch condition.Less false) ∷
    row (codes "bgu") (shape.Branch condition.GreaterUnsigned false) ∷
    row (codes "bleu") (shape.Branch condition.LessOrEqualUnsigned false) ∷
    row (codes "bcc") (shape.Branch condition.CarryClear false) ∷
    row (codes "bgeu") (shape.Branch condition.CarryClear false) ∷
    row (codes "bcs") (shape.Branch condition.CarrySet false) ∷
    row (codes "blu") (shape.Branch condition.CarrySet false) ∷
    row (codes "bpos") (shape.Branch condition.Positive false) ∷
    row (codes "bneg") (shape.Branch condition.Negative false) ∷
    row (codes "bvc") (shape.Branch condition.OverflowClear false) ∷
    row (codes "bvs") (shape.Branch condition.OverflowSet false) ∷
    row (codes "ta") (shape.Trap condition.Always) ∷
    row (codes "tn") (shape.Trap condition.Never) ∷
    row (codes "tne") (shape.Trap condition.NotEqual) ∷
    row (codes "tnz") (shape.Trap condition.NotEqual) ∷
    row (codes "te") (shape.Trap condition.Equal) ∷
    row (codes "tz") (shape.Trap condition.Equal) ∷
    row (codes "tg") (shape.Trap condition.Greater) ∷
    row (codes "tle") (shape.Trap condition.LessOrEqual) ∷
    row (codes "tge") (shape.Trap condition.GreaterOrEqual) ∷
    row (codes "tl") (shape.Trap condition.Less) ∷
    row (codes "tgu") (shape.Trap condition.GreaterUnsigned) ∷
    row (codes "tleu") (shape.Trap condition.LessOrEqualUnsigned) ∷
    row (codes "tcc") (shape.Trap condition.CarryClear) ∷
    row (codes "tgeu") (shape.Trap condition.CarryClear) ∷
    row (codes "tcs") (shape.Trap condition.CarrySet) ∷
    row (codes "tlu") (shape.Trap condition.CarrySet) ∷
    row (codes "tpos") (shape.Trap condition.Positive) ∷
    row (codes "tneg") (shape.Trap condition.Negative) ∷
    row (codes "tvc") (shape.Trap condition.OverflowClear) ∷
    row (codes "tvs") (shape.Trap condition.OverflowSet) ∷
    row (codes "call") shape.Call ∷
    row (codes "jmpl") shape.Jmpl ∷
    row (codes "jmp") (shape.To operation.Jmpl) ∷
    row (codes "rett") (shape.To operation.Rett) ∷
    row (codes "flush") (shape.To operation.Flush) ∷
    row (codes "stbar") shape.Stbar ∷
    row (codes "unimp") shape.Unimp ∷ []

-- synthetic instructions and directives
unfoldable pub synthetics : List (Row Shape)
synthetics =
    row (codes "nop") shape.Nop ∷
    row (codes "ret") (shape.Return r.I7) ∷
    row (codes "retl") (shape.Return r.O7) ∷
    row (codes "tst") (shape.Test (operation.Arith arith.Or true)) ∷
    row (codes "not") (shape.Not (operation.Arith arith.Xnor false)) ∷
    row (codes "neg") (shape.Negate (operation.Arith arith.Sub false)) ∷
    row (codes "inc") (shape.Step (operation.Arith arith.Add false)) ∷
    row (codes "inccc") (shape.Step (operation.Arith arith.Add true)) ∷
    row (codes "dec") (shape.Step (operation.Arith arith.Sub false)) ∷
    row (codes "deccc") (shape.Step (operation.Arith arith.Sub true)) ∷
    row (codes "btst") (shape.TestBits (operation.Arith arith.And true)) ∷
    row (codes "bset") (shape.Update (operation.Arith arith.Or false)) ∷
    row (codes "bclr") (shape.Update (operation.Arith arith.Andn false)) ∷
    row (codes "btog") (shape.Update (operation.Arith arith.Xor false)) ∷
    row (codes "cmp") (shape.Compare (operation.Arith arith.Sub true)) ∷
    row (codes "clr") shape.Clear ∷
    row (codes "clrb") (shape.ClearAt memory.Stb) ∷
    row (codes "clrh") (shape.ClearAt memory.Sth) ∷
    row (codes "mov") shape.Mov ∷
    row (codes "set") (shape.Directive directive.Set) ∷
    row (codes ".org") (shape.Directive (directive.Motion motion.Org)) ∷
    row (codes ".skip") (shape.Directive (directive.Motion motion.Skip)) ∷
    row (codes ".align") (shape.Directive (directive.Motion motion.Align)) ∷
    row (codes ".byte") (shape.Directive (directive.Data width.Byte)) ∷
    row (codes ".half") (shape.Directive (directive.Data width.Half)) ∷
    row (codes ".word") (shape.Directive (directive.Data width.Word)) ∷
    row (codes ".ascii") (shape.Directive directive.Ascii) ∷
    row (codes ".equ") (shape.Directive directive.Equ) ∷ []

unfoldable pub other_shape : List ℕ → Option Shape
other_shape name = option_or (look_up transfers name) (look_up synthetics name)

-- what follows a mnemonic
unfoldable pub shape_named : List ℕ → Option Shape
shape_named name = option_or (look_up operations name) (other_shape name)
