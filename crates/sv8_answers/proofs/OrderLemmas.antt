-- Lemmas on orders.
use Rattle.std.proofs.Common.{◌≡◌, ℕ, true, false, List, [], ◌∷◌, Option, Some, None, Result, refl, arith, tests, eqb}
use Rattle.std.proofs.lemmas.Bool.{false≢true}
use Rattle.sv8_model.specs.declared.refused.Refused.TheVariants.{OutOfMemory}
use Rattle.sv8_session.specs.Language.{takes_lines}
use Rattle.sv8_session.specs.Put as session
use Rattle.sv8_session.specs.Put.{Puts}
use Rattle.sv8_commands.specs.declared.command.Command.{Command}
use Rattle.sv8_commands.specs.declared.command.Command.TheVariants.{Edit, Quit}
use Rattle.sv8_commands.specs.Commands.{command_of}
use Rattle.sv8_commands.specs.Order.{Order, begins, begun_of, order_of, range_of}
use Rattle.sv8_answers.specs.Refusal.{refusal_of}
use Rattle.sv8_commands.specs.Text.{refusal_line}
use Rattle.sv8_answers.specs.Put.{Replies}
use Rattle.sv8_answers.specs.Session.{State, language, outcome}
use Rattle.sv8_answers.proofs.AnswerLemmas.{reply-lost}

pub range-none : (c : Command) → ((first last count : ℕ) → c ≡ Edit first last count → ⊥) → range_of c ≡ None
range-none (Edit first last count) h = absurd (h first last count refl)
range-none c h = refl

pub reply-order : {A E : Type 0} (r : Result A E) (a b : Option (List ℕ)) (s l : State) (o : Order) → Replies r a b s (outcome s o) l → session.Replies language r a b s o l
reply-order r a b s l o h = record { text = h.text; answers = h.answers; put = h.put }

lose-command : {A E : Type 0} (r : Result A E) (a b : Option (List ℕ)) (s : State) (c : Option Command) (lines : List (List ℕ)) → takes_lines (begun_of c) ≡ true → Puts r a b (refusal_line (refusal_of OutOfMemory))
    → Replies r a b s (outcome s (order_of c lines)) s
lose-command r a b s None lines h put = absurd (false≢true h)
lose-command r a b s (Some (Edit first last count)) lines h put = let t : eqb count 0 ≡ false = search (arith, tests) in rw t (reply-lost r a b s first last lines put)
lose-command r a b s (Some Quit) lines h put = absurd (false≢true h)
lose-command r a b s (Some c) lines h put = absurd (false≢true h)

pub lose-words : {A E : Type 0} (r : Result A E) (a b : Option (List ℕ)) (s : State) (words : List (List ℕ)) (lines : List (List ℕ)) → takes_lines (begins words) ≡ true
    → Puts r a b (refusal_line (refusal_of OutOfMemory)) → session.Replies language r a b s (order_of (command_of words) lines) s
lose-words r a b s [] lines h put = absurd (false≢true h)
lose-words r a b s (word ∷ words) lines h put =
    reply-order r a b s s (order_of (command_of (word ∷ words)) lines) (lose-command r a b s (command_of (word ∷ words)) lines h put)
