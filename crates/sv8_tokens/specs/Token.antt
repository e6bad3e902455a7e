-- Tokens, without where their text lies.
use Rattle.std.specs.Prelude.{ℕ, List, map}
use Rattle.sv8_tokens.specs.declared.token.Token.{Token as Held}
use Rattle.sv8_tokens.specs.declared.token.Token.TheVariants as held
use Rattle.sv8_tokens.specs.declared.token.Percent.{Percent as Named}
use Rattle.sv8_tokens.specs.declared.token.Mark.{Mark as Sign}

-- a name or a reference to a local label; a number; what begins with a percent sign; a punctuation mark; a text in
-- quotes; a digit that is a label, with its colon
pub data Token : Type 0 where
  Word : List ℕ → Token
  Number : ℕ → Token
  Percent : Named → Token
  Mark : Sign → Token
  Quoted : List ℕ → Token
  Local : ℕ → Token

abbrev pub view : Held → Token
view (held.Word w) = Word w.now
view (held.Number n) = Number n
view (held.Percent p) = Percent p
view (held.Mark m) = Mark m
view (held.Quoted q) = Quoted q.now
view (held.Local d) = Local d

abbrev pub views : List Held → List Token
views ts = map view ts
