-- The language of the monitor: all commands of the workbench, and its own questions. Answers to its orders, from what is kept alone.
use Rattle.std.specs.Prelude.{◌≡◌, ◌⊎◌, ℕ, List, ◌++◌, Option, Some, None}
use Rattle.sv8_model.specs.declared.refused.Refused.{Refused}
use Rattle.sv8_model.specs.declared.refused.Refused.TheVariants.{OutOfMemory}
use Rattle.sv8_model.specs.Refused.{IsRefused}
use Rattle.sv8_workbench.specs.declared.fault.BenchFault.{BenchFault}
use Rattle.sv8_answers.specs.Refusal.{refusal_of}
use Rattle.sv8_commands.specs.Text.{ok_line, refusal_line}
use Rattle.sv8_workbench.specs.Kept.{Kept, empty}
use Rattle.sv8_session.specs.declared.begun.Begun.{Begun}
use Rattle.sv8_session.specs.declared.begun.Begun.TheVariants.{Takes}
use Rattle.sv8_session.specs.Language.{Language}
use Rattle.sv8_session.specs.Session as session
use Rattle.sv8_session.specs.Run as session_run
use Rattle.sv8_session.specs.Script as script
use Rattle.sv8_commands.specs.Words.{words_of}
use Rattle.sv8_commands.specs.Order as shell_order
use Rattle.sv8_answers.specs.Outcome.{Outcome, Answers}
use Rattle.sv8_answers.specs.Session as shell_session
use Rattle.sv8_monitor.specs.declared.question.Question.{Question}
use Rattle.sv8_monitor.specs.declared.question.Question.TheVariants.{Now, Before, Keep, Part, Differ}
use Rattle.sv8_monitor.specs.Questions.{question_of}
use Rattle.sv8_monitor.specs.Answers.{query_outcome, differ_outcome}
use Rattle.sv8_search.specs.Comparing.{range_refusal, IsParted}
use Rattle.sv8_monitor.specs.Texts.{parted_text}
use Rattle.sv8_monitor.specs.Pair.{Pair}

-- what a session keeps between its orders: the source and the timeline as they are, and as they were kept
pub record Both : Type 0 where
  pub now : Kept
  pub before : Kept

-- over new workbenches
abbrev pub new_pair : ℕ → ℕ → Both
new_pair windows pages = record { now = empty windows pages; before = empty windows pages }

-- of a monitor
abbrev pub kept_of : Pair → Both
kept_of m = record { now = m.current.kept; before = m.before.kept }

pub data Order : Type 0 where
  -- an order of the workbench, to the one that is edited
  shell : shell_order.Order → Order
  ask : Question → Order

-- a question takes no lines; every other line is the workbench's
abbrev pub begins : Option Question → List ℕ → Begun
begins None text = shell_session.language.begins text
begins (Some question) text = Takes 0

abbrev pub order : Option Question → List ℕ → List (List ℕ) → Order
order None text lines = shell (shell_session.language.order text lines)
order (Some question) text lines = ask question

-- an outcome of the one that is edited leaves before as it is
pub record OnNow (kept : Both) (outcome : Outcome) (text : List ℕ) (next : Both) : Type 0 where
  pub answers : Answers kept.now outcome text next.now
  pub before : next.before ≡ kept.before

-- and the other way round
pub record OnBefore (kept : Both) (outcome : Outcome) (text : List ℕ) (next : Both) : Type 0 where
  pub answers : Answers kept.before outcome text next.before
  pub now : next.now ≡ kept.now

-- what is now becomes what was before, or memory is wanted and nothing changes
abbrev pub IsKept : Both → List ℕ → Both → Type 0
IsKept kept text next =
    ((text ≡ ok_line) × (next ≡ record { now = kept.now; before = kept.now }))
    ⊎ ((text ≡ refusal_line (refusal_of OutOfMemory)) × (next ≡ kept))

-- the step at which both part, in a range of steps that can be shown
pub record TellsParting (kept : Both) (from to : ℕ) (text : List ℕ) : Type 0 where
  pub within : range_refusal from to ≡ None
  pub step : Option ℕ
  pub first : IsParted kept.before kept.now from to step
  pub told : text ≡ parted_text step ++ ok_line

-- a refusal, or want of memory where there is none
pub record TellsFault (refusal : Option BenchFault) (text : List ℕ) : Type 0 where
  pub fault : Refused BenchFault
  pub due : IsRefused refusal fault
  pub told : text ≡ refusal_line (refusal_of fault)

pub record IsParting (kept : Both) (from to : ℕ) (text : List ℕ) (next : Both) : Type 0 where
  pub answers : TellsParting kept from to text ⊎ TellsFault (range_refusal from to) text
  pub same : next ≡ kept

abbrev pub AnswersQuestion : Both → Question → List ℕ → Both → Type 0
AnswersQuestion kept (Now query) text next = OnNow kept (query_outcome query kept.now) text next
AnswersQuestion kept (Before query) text next = OnBefore kept (query_outcome query kept.before) text next
AnswersQuestion kept Keep text next = IsKept kept text next
AnswersQuestion kept (Part from to) text next = IsParting kept from to text next
AnswersQuestion kept (Differ now before count) text next = OnNow kept (differ_outcome now before count kept.before kept.now) text next

abbrev pub AnswersOrder : Both → Order → List ℕ → Both → Type 0
AnswersOrder kept (shell order) text next = OnNow kept (shell_session.outcome kept.now order) text next
AnswersOrder kept (ask question) text next = AnswersQuestion kept question text next

-- the commands of the monitor
abbrev pub language : Language Both Order
language = record {
  begins = λ text. begins (question_of (words_of text)) text;
  order = λ text lines. order (question_of (words_of text)) text lines;
  bad = shell shell_order.bad;
  Answers = AnswersOrder;
}

abbrev pub Session : Both → List Order → List ℕ → Both → Type 0
Session start orders text last = session.Session language start orders text last

abbrev pub Answered : Option (List ℕ) → Option (List ℕ) → Both → List Order → Both → Type 0
Answered old new start orders last = session.Answered language old new start orders last

abbrev pub Cut : Option (List ℕ) → Option (List ℕ) → Both → List Order → Both → Type 0
Cut old new start orders last = session.Cut language old new start orders last

abbrev pub AnsweredGiven : Option (List ℕ) → Option (List ℕ) → Option (List ℕ) → Option (List ℕ) → Both → Both → Type 0
AnsweredGiven known left written now start last = session_run.AnsweredGiven language known left written now start last

abbrev pub orders_in : List (List ℕ) → List Order
orders_in lines = script.orders_in language lines

abbrev pub orders_of : List ℕ → List Order
orders_of bytes = script.orders_of language bytes

abbrev pub EndsByQuit : List (List ℕ) → Type 0
EndsByQuit lines = script.EndsByQuit language lines

abbrev pub HasNoQuit : List (List ℕ) → Type 0
HasNoQuit lines = script.HasNoQuit language lines
