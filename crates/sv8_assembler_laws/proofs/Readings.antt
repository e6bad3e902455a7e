-- What `reading` gives is what the grammar says.
use Rattle.std.proofs.Common.{◌≡◌, ℕ, ◌≤◌, Bool, true, false, cond, ltb, List, length, Option, Some, None, Result, Ok, Err, refl, ap, ◌∙◌}
use Rattle.std.specs.List.{list_all}
use Rattle.std.proofs.lemmas.Bool.{ltb-true, ltb-false}
use Rattle.sv8_statements.specs.declared.fault.LineFault.{LineFault}
use Rattle.sv8_statements.specs.declared.fault.LineFault.TheVariants.{LineTooLong, NotAscii, Syntax}
use Rattle.sv8_statements.specs.declared.statement.Stmt.{Stmt}
use Rattle.sv8_tokens.specs.Spelling.{AllPass}
use Rattle.sv8_syntax.specs.Grammar.{ReadsAs, IsFault, is_text_byte}
use Rattle.sv8_statements.specs.Steps.{◌>>=◌}
use Rattle.sv8_tokens.specs.Lexing.{tokens_of}
use Rattle.sv8_statements.specs.Names.{Defines}
use Rattle.sv8_syntax.specs.Reading.{line_of, or_syntax, reading}
use Rattle.sv8_syntax.proofs.Defined.{line-defines}
use Rattle.sv8_syntax.proofs.Lines.{reading-text}
use Rattle.sv8_statements.proofs.Steps.{bind_some}
use Rattle.sv8_tokens.proofs.Texts.{tokens_of-again, tokens_of-read}
use Rattle.sv8_tokens.proofs.Words.{passes, passed}
use Rattle.sv8_assembler_laws.proofs.Read.{line-read}
use Rattle.sv8_assembler_laws.proofs.Written.{line-again}

pub read-again : (text : List ℕ) (s : Stmt) → ReadsAs text s → reading text ≡ Ok s
read-again text s r = reading-text text r.short r.ascii ∙ rw (tokens_of-again text r.tokens r.cut, line-again r.tokens s r.parsed) refl

-- what an outcome says of the text
abbrev Means : List ℕ → Result Stmt LineFault → Type 0
Means text (Ok s) = ReadsAs text s
Means text (Err e) = IsFault text e

no_line : (text : List ℕ) → reading text ≡ Err Syntax → (s : Stmt) → ReadsAs text s → ⊥
no_line text e s r = let again = read-again text s r in absurd cc

line-means : (text : List ℕ) (o : Option Stmt) → length text ≤ 255 → AllPass is_text_byte text → (tokens_of text >>= line_of) ≡ o → Means text (or_syntax o)
line-means text None short ascii e = (short, ascii, no_line text (reading-text text short ascii ∙ ap or_syntax e))
line-means text (Some s) short ascii e =
    let a = bind_some (tokens_of text) line_of s e in
    record { short = short; ascii = ascii; tokens = a.0; cut = tokens_of-read text a.0 a.1; parsed = line-read a.0 s a.2 }

reading-means : (text : List ℕ) → Means text (reading text)
unfolding reading
reading-means text =
    let P : Bool → Type 0 = λ v. ltb 255 (length text) ≡ v → Means text (cond v (Err LineTooLong) (cond (list_all is_text_byte text) (or_syntax (tokens_of text >>= line_of)) (Err NotAscii))) in
    let long : (v : Bool) → P v = λ v. elim v as P [
      | true ↦ λ e. ltb-true 255 (length text) e
      | false ↦ λ e.
          let short : length text ≤ 255 = ltb-false 255 (length text) e in
          let Q : Bool → Type 0 = λ w. list_all is_text_byte text ≡ w → Means text (cond w (or_syntax (tokens_of text >>= line_of)) (Err NotAscii)) in
          let other : (w : Bool) → Q w = λ w. elim w as Q [
            | true ↦ λ f. line-means text (tokens_of text >>= line_of) short (passes is_text_byte text f) refl
            | false ↦ λ f. (short, λ all. let g = passed is_text_byte text all in absurd cc)
          ] in
          other (list_all is_text_byte text) refl
    ] in
    long (ltb 255 (length text)) refl

pub read-means : (text : List ℕ) (r : Result Stmt LineFault) → reading text ≡ r → Means text r
read-means text r e = rw (← e) (reading-means text)

pub reads-defines : (text : List ℕ) (s : Stmt) → ReadsAs text s → Defines s
reads-defines text s r = line-defines text r.tokens s r.cut (line-again r.tokens s r.parsed)
