-- The words of instructions.
use Rattle.std.proofs.Common.{◌≡◌, ◌∙◌, ℕ, List, [], ◌∷◌, ◌++◌, Option, Some, None, Result, Ok, Err, refl, sym, ap}
use Rattle.std.specs.Int.{w32, to_be_bytes}
use Rattle.sv8_isa.specs.Encoding.{encoding}
use Rattle.sv8_isa.specs.declared.instr.Instr.{Instr}
use Rattle.sv8_assembler_laws.proofs.Forth.{forth}
use Rattle.sv8_statements.specs.declared.fault.LineFault.{LineFault}
use Rattle.sv8_asm.specs.Code.{word_and, instruction_bytes}
use Rattle.sv8_assembler_laws.specs.StatementLaws.{AreWordsOf}

more : (i : Instr) (is : List Instr) (b : List ℕ) (w : Option ℕ) (rest : Result (List ℕ) LineFault) → encoding i ≡ w → ((c : List ℕ) → rest ≡ Ok c → AreWordsOf is c) → word_and w rest ≡ Ok b → AreWordsOf (i ∷ is) b
more i is b None rest e ih h = absurd (cc)
more i is b (Some w) (Ok c) e ih h =
    let k = ih c refl in
    let f : to_be_bytes w32 w ++ c ≡ b = cc in
    record { words = w ∷ k.words; decode = (forth i w e, k.decode); bytes = sym f ∙ ap (λ x. to_be_bytes w32 w ++ x) k.bytes }
more i is b (Some w) (Err f) e ih h = absurd (cc)

pub decode : (is : List Instr) (b : List ℕ) → instruction_bytes is ≡ Ok b → AreWordsOf is b
decode [] b h = let e : [] ≡ b = cc in record { words = []; decode = tt; bytes = sym e }
decode (i ∷ is) b h = more i is b (encoding i) (instruction_bytes is) refl (decode is) h
