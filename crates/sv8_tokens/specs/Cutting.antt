-- What the cutting of a text into tokens answers.
use Rattle.std.specs.Prelude.{◌≡◌, ℕ, List, Result, Ok, Err}
use Rattle.std.specs.Global.{Vec}
use Rattle.sv8_model.specs.declared.refused.Refused.{Refused}
use Rattle.sv8_model.specs.declared.refused.Refused.TheVariants.{OutOfMemory, By}
use Rattle.sv8_statements.specs.declared.fault.LineFault.{LineFault}
use Rattle.sv8_statements.specs.declared.fault.LineFault.TheVariants.{Syntax}
use Rattle.sv8_tokens.specs.declared.token.Token.{Token as Held}
use Rattle.sv8_tokens.specs.Token.{Token, views}
use Rattle.sv8_tokens.specs.Spelling.{IsCutInto}

-- a list of tokens that the text is cut into, and no other
pub record IsOnlyCut (text : List ℕ) (ts : List Token) : Type 0 where
  pub cut : IsCutInto text ts
  pub only : (us : List Token) → IsCutInto text us → us ≡ ts

-- the text has no tokens, or memory ran out
abbrev pub IsCutFault : List ℕ → Refused LineFault → Type 0
IsCutFault text OutOfMemory = Unit {0}
IsCutFault text (By Syntax) = (us : List Token) → IsCutInto text us → ⊥
IsCutFault text _ = ⊥

-- what the cutting into tokens answers
abbrev pub IsCutResult : List ℕ → Result (Vec Held) (Refused LineFault) → Type 0
IsCutResult text (Ok ts) = IsOnlyCut text (views ts.items)
IsCutResult text (Err e) = IsCutFault text e
