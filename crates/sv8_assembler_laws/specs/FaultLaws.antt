-- The fault of a source.
use Rattle.std.specs.Prelude.{◌≡◌, ℕ, ◌+◌, ◌≤◌, ◌⊎◌, List, [], ◌∷◌, ◌++◌, length, Some, Ok, Err}
use Rattle.sv8_statements.specs.declared.fault.LineFault.{LineFault}
use Rattle.sv8_statements.specs.declared.statement.Stmt.{Stmt}
use Rattle.sv8_statements.specs.Faults.{rank}
use Rattle.sv8_statements.specs.Names.{Defines}
use Rattle.sv8_asm.specs.Code.{bytes}
use Rattle.sv8_asm.specs.Names.{Names}
use Rattle.sv8_asm.specs.Size.{size}
use Rattle.sv8_source.specs.declared.fault.SourceFault.{SourceFault}
use Rattle.sv8_source.specs.declared.fault.SourceFault.TheVariants.{Line}
use Rattle.sv8_source.specs.Layout.{Layout, Place, start, define_label, define_equ, moved, admitted, with_line, laid, valued}
use Rattle.sv8_source.specs.Text.{Text, fault}

-- a line without a fault in any line before it has this fault in the layout pass
pub record FirstOfLayout (s : Text) (e : SourceFault) : Type 0 where
  pub front : List (List ℕ)
  pub text : List ℕ
  pub back : List (List ℕ)
  pub lines : s.lines ≡ front ++ text ∷ back
  pub before : Layout
  pub laid : laid s.limit 1 front start ≡ Ok before
  pub fault : LineFault
  pub faulty : with_line s.limit (1 + length front) text before ≡ Err fault
  pub named : e ≡ Line (1 + length front) fault

-- the layout pass has no fault, and a line without a fault in any line before it has this one in the value pass
pub record FirstOfValues (s : Text) (e : SourceFault) : Type 0 where
  pub layout : Layout
  pub laid : laid s.limit 1 s.lines start ≡ Ok layout
  pub front : List Place
  pub place : Place
  pub back : List Place
  pub places : layout.places ≡ front ++ place ∷ back
  pub code : List (List ℕ)
  pub valued : valued layout.symbols 1 front [] ≡ Ok code
  pub fault : LineFault
  pub faulty : bytes place.stmt (1 + length front) place.at layout.symbols ≡ Err fault
  pub named : e ≡ Line (1 + length front) fault

-- the fault that is named is that of the lowest faulty line
abbrev pub LowestLineIsNamed : Type 0
LowestLineIsNamed = (s : Text) (e : SourceFault) → fault s ≡ Some e → FirstOfLayout s e ⊎ FirstOfValues s e

-- the faults that a statement as line n has in the layout pass: of its label, of its name with a number, of its size, and of the limit
pub data HasFault (limit n at : ℕ) (s : Stmt) (symbols : Names) (g : LineFault) : Type 0 where
  of_label : define_label s.label n at symbols ≡ Err g → HasFault limit n at s symbols g
  of_number : (labelled : Names) → define_label s.label n at symbols ≡ Ok labelled → define_equ s.statement labelled ≡ Err g → HasFault limit n at s symbols g
  of_size : size s at ≡ Err g → HasFault limit n at s symbols g
  of_limit : (count : ℕ) → size s at ≡ Ok count → moved limit at count ≡ Err g → HasFault limit n at s symbols g

-- of several faults that a line has in the layout pass, the one of the lowest number is named
abbrev pub LeastFaultIsNamed : Type 0
LeastFaultIsNamed =
    (limit n at : ℕ) (s : Stmt) (symbols : Names) (f g : LineFault) → Defines s → admitted limit n at s symbols ≡ Err f → HasFault limit n at s symbols g → rank f ≤ rank g
