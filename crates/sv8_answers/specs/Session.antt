-- Answers to orders one after the other, from what a workbench keeps alone.
use Rattle.std.specs.Prelude.{ℕ, List, Option}
use Rattle.sv8_workbench.specs.Kept.{Kept}
use Rattle.sv8_session.specs.Language.{Language}
use Rattle.sv8_session.specs.Session as session
use Rattle.sv8_session.specs.Run as session_run
use Rattle.sv8_commands.specs.Words.{words_of}
use Rattle.sv8_commands.specs.Commands.{command_of}
use Rattle.sv8_answers.specs.Commands.{edit_outcome, outcome_of}
use Rattle.sv8_answers.specs.Outcome.{Outcome, refused, Answers}
use Rattle.sv8_commands.specs.Refusal.{bad_command}
use Rattle.sv8_commands.specs.Order.{Order, edit, command, bad, begins, order_of}

-- what a session keeps between its orders: what a workbench does, which is its source and its timeline
abbrev pub State : Type 0
State = Kept

-- what an order comes to
unfoldable pub outcome : State → Order → Outcome
outcome kept (edit first last lines) = edit_outcome first last lines kept
outcome kept (command c) = outcome_of c kept
outcome kept bad = refused bad_command

-- the commands of the workbench
abbrev pub language : Language State Order
language = record {
  begins = λ text. begins (words_of text);
  order = λ text lines. order_of (command_of (words_of text)) lines;
  bad = bad;
  Answers = λ kept order text next. Answers kept (outcome kept order) text next;
}

abbrev pub Session : State → List Order → List ℕ → State → Type 0
Session start orders text last = session.Session language start orders text last

abbrev pub Answered : Option (List ℕ) → Option (List ℕ) → State → List Order → State → Type 0
Answered old new start orders last = session.Answered language old new start orders last

abbrev pub Cut : Option (List ℕ) → Option (List ℕ) → State → List Order → State → Type 0
Cut old new start orders last = session.Cut language old new start orders last

abbrev pub AnsweredGiven : Option (List ℕ) → Option (List ℕ) → Option (List ℕ) → Option (List ℕ) → State → State → Type 0
AnsweredGiven known left written now start last = session_run.AnsweredGiven language known left written now start last
