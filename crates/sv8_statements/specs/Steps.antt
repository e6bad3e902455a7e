-- A step on a value that may be missing.
use Rattle.std.specs.Prelude.{Option, Some, None}

-- the next step on a value that was found
infixl 10 ◌>>=◌
abbrev pub ◌>>=◌ : {A B : Type 0} → Option A → (A → Option B) → Option B
(Some x) >>= f = f x
None >>= f = None
