-- Escapes in a text between quotes.
use Rattle.std.specs.Prelude.{ℕ, List, [], ◌∷◌, Bool, true, false, Option, Some, None, ◌==◌, if◌then◌else◌}
use Rattle.sv8_statements.specs.Steps.{◌>>=◌}

-- what a byte behind a backslash stands for: n, t, 0, a backslash, a quote
unfoldable pub escape_of : ℕ → Option ℕ
escape_of e =
    if e == 110 then Some 10
    else (if e == 116 then Some 9
    else (if e == 48 then Some 0
    else (if e == 92 then Some 92
    else (if e == 34 then Some 34
    else None))))

-- the bytes that a text stands for; where the test is true a backslash stands before it
unfoldable pub resolved : Bool → List ℕ → Option (List ℕ)
resolved true [] = None
resolved false [] = Some []
resolved true (c ∷ cs) = do
  byte ← escape_of c
  bytes ← resolved false cs
  Some (byte ∷ bytes)
resolved false (c ∷ cs) = if c == 92 then resolved true cs else (resolved false cs >>= λ bytes. Some (c ∷ bytes))
