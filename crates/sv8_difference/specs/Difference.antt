-- The lines of a text, and the first in which two texts differ.
use Rattle.std.specs.Prelude.{◌≡◌, ◌≢◌, ℕ, ◌+◌, ◌<◌, length, List, [], ◌∷◌, Option, Some, None, bytes_eq, ◌==◌, if◌then◌else◌}

-- a byte in front of the first of some lines
unfoldable pub with_byte : ℕ → List (List ℕ) → List (List ℕ)
with_byte b [] = (b ∷ []) ∷ []
with_byte b (line ∷ lines) = (b ∷ line) ∷ lines

-- the lines of a text, each with its LF
unfoldable pub lines : List ℕ → List (List ℕ)
lines [] = []
lines (b ∷ text) = if b == 10 then (b ∷ []) ∷ lines text else with_byte b (lines text)

-- the first of some lines; an empty one where there is none
unfoldable pub first_of : List (List ℕ) → List ℕ
first_of [] = []
first_of (line ∷ lines) = line

-- where the first line of a text ends
unfoldable pub line_end : List ℕ → ℕ
line_end text = length (first_of (lines text))

-- the first line, with its number, in which the lines that are due differ from those that came, where the first of them has the number n;
-- where a text has ended, its line is empty
unfoldable pub difference_from : ℕ → List (List ℕ) → List (List ℕ) → Option (ℕ × List ℕ × List ℕ)
difference_from n [] [] = None
difference_from n (d ∷ due) [] = Some (n, d, [])
difference_from n [] (c ∷ came) = Some (n, [], c)
difference_from n (d ∷ due) (c ∷ came) = if bytes_eq d c then difference_from (n + 1) due came else Some (n, d, c)

-- the first line in which two texts differ
abbrev pub difference : List ℕ → List ℕ → Option (ℕ × List ℕ × List ℕ)
difference due came = difference_from 1 (lines due) (lines came)

-- a text is split into its first line and what is left, which is shorter
abbrev pub IsSplit : List ℕ → List ℕ → List ℕ → Type 0
IsSplit [] line rest = (line ≡ []) × (rest ≡ [])
IsSplit (b ∷ text) line rest = (lines (b ∷ text) ≡ line ∷ lines rest) × (line ≢ []) × (length rest < length (b ∷ text))
