use Rattle.std.proofs.Common.{◌≡◌, List, sym, ap, ◌∙◌}
use Rattle.sv8_tokens.specs.Token.{Token}
use Rattle.sv8_syntax.specs.Grammar.{IsLine}
use Rattle.sv8_syntax.specs.Reading.{line_of}
use Rattle.sv8_statements.specs.declared.statement.Stmt.{Stmt}
use Rattle.sv8_statements.proofs.Steps.{some_is}
use Rattle.sv8_tokens.proofs.Cut.{one_cut}
use Rattle.sv8_assembler_laws.proofs.Written.{line-again}
use Rattle.sv8_assembler_laws.proofs.lines.one_reading.Goals as goal

one_line : (ts us : List Token) (s t : Stmt) → us ≡ ts → IsLine ts s → IsLine us t → s ≡ t
one_line ts us s t e a b = some_is s t (sym (line-again ts s a) ∙ ap line_of (sym e) ∙ line-again us t b)

pub returns : goal.returns
returns c = λ text s t a b. one_line a.tokens b.tokens s t (one_cut a.tokens b.tokens text a.cut b.cut) a.parsed b.parsed
