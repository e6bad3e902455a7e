-- Questions change nothing that is kept.
use Rattle.std.proofs.Common.{◌≡◌, ℕ, Bool, List, Option, Some, None, Result, refl}
use Rattle.sv8_workbench.specs.declared.fault.BenchFault.{BenchFault}
use Rattle.sv8_workbench.specs.Kept.{Kept}
use Rattle.sv8_commands.specs.declared.command.Query.TheVariants.{Listing, Regs, Mem, Out}
use Rattle.sv8_answers.specs.Outcome.{told, unless_refused, Answers, due, lacking}
use Rattle.sv8_answers.specs.Put.{Replies}
use Rattle.sv8_monitor.specs.declared.question.Query.{Query}
use Rattle.sv8_monitor.specs.declared.question.Query.TheVariants.{Workbench, Steps, Windows, Where, Lines, Names, Events}
use Rattle.sv8_monitor.specs.Answers.{query_outcome}

-- an outcome that tells a text, or is refused
told-keeps : (k next : Kept) (refusal : Option BenchFault) (lacks : Bool) (told_text text : List ℕ) → Answers k (unless_refused refusal (told lacks told_text)) text next → next ≡ k
told-keeps k next None lacks t text due = refl
told-keeps k next None lacks t text (lacking h) = refl
told-keeps k next (Some fault) lacks t text due = refl
told-keeps k next (Some fault) lacks t text (lacking h) = refl

query-answer : (q : Query) (k next : Kept) (text : List ℕ) → Answers k (query_outcome q k) text next → next ≡ k
query-answer (Workbench Listing) k next text h = told-keeps k next None _ _ text h
query-answer (Workbench (Regs step)) k next text h = told-keeps k next _ _ _ text h
query-answer (Workbench (Mem step address count)) k next text h = told-keeps k next _ _ _ text h
query-answer (Workbench (Out step)) k next text h = told-keeps k next _ _ _ text h
query-answer (Steps from to count conditions) k next text h = told-keeps k next _ _ _ text h
query-answer (Windows step) k next text h = told-keeps k next _ _ _ text h
query-answer (Where step address) k next text h = told-keeps k next _ _ _ text h
query-answer (Lines first last) k next text h = told-keeps k next _ _ _ text h
query-answer Names k next text h = told-keeps k next None _ _ text h
query-answer (Events first last) k next text h = told-keeps k next _ _ _ text h

-- a question of one workbench
pub query-keeps : {A E : Type 0} (r : Result A E) (a b : Option (List ℕ)) (q : Query) (k next : Kept) → Replies r a b k (query_outcome q k) next → next ≡ k
query-keeps r a b q k next h = query-answer q k next h.text h.answers
