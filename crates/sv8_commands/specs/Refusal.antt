-- A refusal as it is answered.
use Rattle.std.specs.Prelude.{ℕ, List, codes, Option, None}

pub record Refusal : Type 0 where
  pub number : ℕ
  pub name : List ℕ
  -- the line of the source that is at fault, if it is a line's fault
  pub line : Option ℕ

abbrev pub refusal : ℕ → List ℕ → Option ℕ → Refusal
refusal number name line = record { number = number; name = name; line = line }

-- the refusal of a line that is no command
abbrev pub bad_command : Refusal
bad_command = refusal 18 (codes "BadCommand") None
