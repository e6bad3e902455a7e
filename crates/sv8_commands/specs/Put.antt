-- What the parts of a run put to a writer that may fail, where a text waits in front of it.
use Rattle.std.specs.Prelude.{◌≡◌, ℕ, List, ◌++◌, Option, Result, Ok, Err}
use Rattle.std.specs.Io.KnownBytes.{Appends}
use Rattle.sv8_commands.specs.declared.refusal.Refusal as code
use Rattle.sv8_commands.specs.Refusal.{Refusal}
use Rattle.sv8_session.specs.Put.{AppendsPart}

-- a writer, behind which a text waits, gained these bytes: some were put, and the last of them wait now
pub record Gained (old new : Option (List ℕ)) (waited waits bytes : List ℕ) : Type 0 where
  pub written : List ℕ
  pub put : Appends old new written
  pub is : waited ++ bytes ≡ written ++ waits

-- it gained these bytes, or failed after a first part of what waited and of these
abbrev pub Gains : {A E : Type 0} → Result A E → Option (List ℕ) → Option (List ℕ) → List ℕ → List ℕ → List ℕ → Type 0
Gains (Ok _) old new waited waits bytes = Gained old new waited waits bytes
Gains (Err _) old new waited waits bytes = AppendsPart old new (waited ++ bytes)

-- a refusal of the code's, as the definitions have it
abbrev pub refusal_in : code.Refusal → Refusal
refusal_in r = record { number = r.number; name = r.name.now; line = r.line }
