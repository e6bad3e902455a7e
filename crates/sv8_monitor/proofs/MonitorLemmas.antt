-- Lemmas on the monitor's answers to orders of the workbench.
use Rattle.std.proofs.Common.{◌≡◌, ℕ, true, List, Option, Some, None, Result, refl}
use Rattle.std.proofs.lemmas.Bool.{false≢true}
use Rattle.sv8_session.specs.Language.{takes_lines}
use Rattle.sv8_session.specs.Put.{Replies}
use Rattle.sv8_commands.specs.Order as workbench_order
use Rattle.sv8_answers.specs.Put as outcomes
use Rattle.sv8_answers.specs.Session as workbench
use Rattle.sv8_monitor.specs.declared.question.Question.{Question}
use Rattle.sv8_monitor.specs.declared.question.Question.TheVariants.{Differ}
use Rattle.sv8_monitor.specs.Answers.{differ_outcome}
use Rattle.sv8_monitor.specs.Session.{Both, shell, ask, begins, order, language}

-- what the workbench that is edited answers, before being as it was
pub reply-on-now : {A E : Type 0} (r : Result A E) (a b : Option (List ℕ)) (old next : Both) (o : workbench_order.Order) → Replies workbench.language r a b old.now o next.now → next.before ≡ old.before
    → Replies language r a b old (shell o) next
reply-on-now r a b old next o h same = record { text = h.text; answers = record { answers = h.answers; before = same }; put = h.put }

-- only a command of the workbench's takes lines
pub reply-lost-lines : {A E : Type 0} (r : Result A E) (a b : Option (List ℕ)) (kept : Both) (q : Option Question) (text : List ℕ) (lines : List (List ℕ)) → takes_lines (begins q text) ≡ true
    → (takes_lines (workbench.language.begins text) ≡ true → Replies workbench.language r a b kept.now (workbench.language.order text lines) kept.now)
    → Replies language r a b kept (order q text lines) kept
reply-lost-lines r a b kept None text lines takes h = reply-on-now r a b kept kept (workbench.language.order text lines) (h takes) refl
reply-lost-lines r a b kept (Some question) text lines takes h = absurd (false≢true takes)

-- what the one that is edited answers to a question about both
pub reply-differ : {A E : Type 0} (r : Result A E) (a b : Option (List ℕ)) (old next : Both) (at_now at_before count : ℕ) → next.before ≡ old.before
    → outcomes.Replies r a b old.now (differ_outcome at_now at_before count old.before old.now) next.now → Replies language r a b old (ask (Differ at_now at_before count)) next
reply-differ r a b old next at_now at_before count same h = record { text = h.text; answers = record { answers = h.answers; before = same }; put = h.put }
