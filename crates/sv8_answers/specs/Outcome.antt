-- What an order comes to, and the answer to it.
use Rattle.std.specs.Prelude.{◌≡◌, ℕ, Bool, true, List, ◌++◌, Option, Some, None, nat_le}
use Rattle.sv8_model.specs.declared.refused.Refused.TheVariants.{OutOfMemory, By}
use Rattle.sv8_workbench.specs.declared.fault.BenchFault.{BenchFault}
use Rattle.sv8_workbench.specs.Kept.{Kept}
use Rattle.sv8_commands.specs.Refusal.{Refusal}
use Rattle.sv8_answers.specs.Refusal.{refusal_of}
use Rattle.sv8_commands.specs.Text.{ok_line, refusal_line}

pub data Outcome : Type 0 where
  -- done, and this is kept from now on
  changed : Kept → Outcome
  -- this text comes before `ok`, and nothing changes; the flag says whether memory may be wanted for it
  told : Bool → List ℕ → Outcome
  -- nothing changes
  refused : Refusal → Outcome

-- an outcome, or the refusal in its place
abbrev pub unless_refused : Option BenchFault → Outcome → Outcome
unless_refused None outcome = outcome
unless_refused (Some fault) outcome = refused (refusal_of (By fault))

-- whether `refused 1 OutOfMemory` may be answered in its place: in that of what is done, of a text that takes memory,
-- and of a refusal of an edit of the source, which are those up to 12
abbrev pub may_lack_memory : Outcome → Bool
may_lack_memory (changed next) = true
may_lack_memory (told takes_memory text) = takes_memory
may_lack_memory (refused refusal) = nat_le refusal.number 12

-- a text, with what is kept after it
pub record Answer : Type 0 where
  pub text : List ℕ
  pub next : Kept

-- the answer to an outcome
abbrev pub answer_to : Kept → Outcome → Answer
answer_to kept (changed next) = record { text = ok_line; next = next }
answer_to kept (told takes_memory text) = record { text = text ++ ok_line; next = kept }
answer_to kept (refused refusal) = record { text = refusal_line refusal; next = kept }

-- the text that answers an outcome, and what is kept after it
pub data Answers (kept : Kept) (outcome : Outcome) : List ℕ → Kept → Type 0 where
  due : Answers kept outcome (answer_to kept outcome).text (answer_to kept outcome).next
  lacking : may_lack_memory outcome ≡ true → Answers kept outcome (refusal_line (refusal_of OutOfMemory)) kept
