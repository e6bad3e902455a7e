-- The listing of a source.
use Rattle.std.specs.Prelude.{ℕ, zero, suc, List, [], ◌∷◌, Option, None, Result, Ok, Err, slice_get}
use Rattle.sv8_source.specs.declared.fault.SourceFault.{SourceFault}
use Rattle.sv8_source.specs.Layout.{Place}
use Rattle.sv8_source.specs.Text.{Text, Assembly, assembled}

-- a line as it is listed: the location before its statement, the bytes that it places from there on, and its text
pub record ListedLine : Type 0 where
  pub address : ℕ
  pub bytes : List ℕ
  pub text : List ℕ

-- a line with its place and its bytes
abbrev pub shown_line : Place → List ℕ → ListedLine
shown_line p b = record { address = p.at; bytes = b; text = p.text }

-- lines with their places and the bytes of each, in order
abbrev pub shown : List Place → List (List ℕ) → List ListedLine
shown (p ∷ ps) (b ∷ bs) = shown_line p b ∷ shown ps bs
shown _ _ = []

-- the listing of what the passes make
abbrev pub shown_all : Assembly → List ListedLine
shown_all a = shown a.layout.places a.code

-- none where they refuse
abbrev pub listing_of : Result Assembly SourceFault → List ListedLine
listing_of (Ok a) = shown_all a
listing_of (Err e) = []

-- the listing of a source that assembles
unfoldable pub listing : Text → List ListedLine
listing s = listing_of (assembled s)

-- line i, from 1 on
abbrev pub numbered : {A : Type 0} → List A → ℕ → Option A
numbered xs zero = None
numbered xs (suc i) = slice_get xs i
