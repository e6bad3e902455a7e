-- What the answers to commands put to a writer that may fail.
use Rattle.std.specs.Prelude.{ℕ, List, [], Option, Result, Ok, Err}
use Rattle.sv8_source.specs.Listing.{ListedLine}
use Rattle.sv8_model.specs.declared.refused.Refused.{Refused}
use Rattle.sv8_workbench.specs.declared.fault.BenchFault.{BenchFault}
use Rattle.sv8_answers.specs.Refusal.{refusal_of}
use Rattle.sv8_commands.specs.Text.{ok_line, refusal_line}
use Rattle.sv8_answers.specs.Outcome.{Outcome, Answers}
use Rattle.sv8_session.specs.Put.{Puts}
use Rattle.sv8_workbench.specs.Kept.{Kept}

-- an outcome was answered, or the writer failed within its answer
pub record Replies {A E : Type 0} (result : Result A E) (old new : Option (List ℕ)) (start : Kept) (outcome : Outcome) (last : Kept) : Type 0 where
  pub text : List ℕ
  pub answers : Answers start outcome text last
  pub put : Puts result old new text

-- the answer to an edit that came to this
abbrev pub edit_text : {A : Type 0} → Result A (Refused BenchFault) → List ℕ
edit_text (Ok _) = ok_line
edit_text (Err fault) = refusal_line (refusal_of fault)

-- what stands for a line of the listing where there is none
abbrev pub no_line : ListedLine
no_line = record { address = 0; bytes = []; text = [] }
