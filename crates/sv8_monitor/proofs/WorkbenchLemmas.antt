-- To a script that asks nothing of the monitor it answers what the workbench does.
use Rattle.std.proofs.Common.{◌≡◌, ◌∙◌, ℕ, Bool, true, false, eqb, ltb, List, [], ◌∷◌, ◌++◌, map, length, None, refl, sym, ap, subst}
use Rattle.std.specs.Prelude.{⊤}
use Rattle.sv8_session.specs.declared.begun.Begun.{Begun}
use Rattle.sv8_session.specs.declared.begun.Begun.TheVariants.{Nothing, Bad, Takes, Ends}
use Rattle.sv8_session.specs.Script as script
use Rattle.sv8_session.specs.Script.{Stage, idle, taking, over, Step, step, step_of_begun, step_of_line, step_of_more, step_of_taking, orders_from, stage_from, orders_at_end, all_lines, text_of}
use Rattle.sv8_session.specs.Session.{none, more}
use Rattle.sv8_workbench.specs.Kept.{Kept}
use Rattle.sv8_commands.specs.Words.{words_of}
use Rattle.sv8_commands.specs.Order as workbench_order
use Rattle.sv8_answers.specs.Session as workbench
use Rattle.sv8_monitor.specs.Questions.{question_of}
use Rattle.sv8_monitor.specs.Session.{Both, Order, shell, begins, order, language, Session}
use Rattle.sv8_monitor.specs.Laws.{AsksNothing, NoneAsks, AreAnsweredAlike}

-- ---- what a line does

-- a step of the workbench's reading, as one of the monitor's
abbrev lifted : Step workbench_order.Order → Step Order
lifted s = record { orders = map shell s.orders; stage = s.stage }

-- an order, and the stage after it
abbrev one_order : Stage → Order → Step Order
one_order stage o = record { orders = o ∷ []; stage = stage }

module _ (text : List ℕ) (own : question_of (words_of text) ≡ None) where
  begins-same : language.begins text ≡ workbench.language.begins text
  begins-same = ap (λ q. begins q text) own

  order-same : (lines : List (List ℕ)) → language.order text lines ≡ shell (workbench.language.order text lines)
  order-same lines = ap (λ q. order q text lines) own

  taking-same : (count : ℕ) (b : Bool) → eqb count 0 ≡ b → step_of_taking language text count ≡ lifted (step_of_taking workbench.language text count)
  unfolding step_of_taking
  taking-same count true e = rw e (ap (one_order idle) (order-same []))
  taking-same count false e = rw e refl

  begun-same : (b : Begun) → step_of_begun language text b ≡ lifted (step_of_begun workbench.language text b)
  begun-same Nothing = refl
  begun-same Bad = refl
  begun-same (Takes count) = taking-same count (eqb count 0) refl
  begun-same Ends = ap (one_order over) (order-same [])

  more-same : (left : ℕ) (lines : List (List ℕ)) (b : Bool) → eqb left 1 ≡ b → step_of_more language text left lines ≡ lifted (step_of_more workbench.language text left lines)
  unfolding step_of_more
  more-same left lines true e = rw e (ap (one_order idle) (order-same lines))
  more-same left lines false e = rw e refl

line-same : (line : List ℕ) (long : Bool) → ltb 4096 (length line) ≡ long → question_of (words_of (text_of line)) ≡ None → step_of_line language line ≡ lifted (step_of_line workbench.language line)
unfolding step_of_line
line-same line true e own = rw e refl
line-same line false e own =
    rw e (ap (step_of_begun language (text_of line)) (begins-same (text_of line) own) ∙ begun-same (text_of line) own (workbench.language.begins (text_of line)))

-- the command that waits for lines is the workbench's
abbrev WaitsFor : Stage → Type 0
WaitsFor idle = ⊤
WaitsFor (taking text left lines) = question_of (words_of text) ≡ None
WaitsFor over = ⊤

step-same : (stage : Stage) (line : List ℕ) → WaitsFor stage → AsksNothing stage line → step language stage line ≡ lifted (step workbench.language stage line)
step-same idle line waits own = line-same line (ltb 4096 (length line)) refl own
step-same (taking text left lines) line waits own = more-same text waits left (lines ++ text_of line ∷ []) (eqb left 1) refl
step-same over line waits own = refl

taking-waits : (text : List ℕ) (count : ℕ) (b : Bool) → eqb count 0 ≡ b → question_of (words_of text) ≡ None → WaitsFor (step_of_taking workbench.language text count).stage
unfolding step_of_taking
taking-waits text count true e own = rw e tt
taking-waits text count false e own = rw e own

begun-waits : (text : List ℕ) (b : Begun) → question_of (words_of text) ≡ None → WaitsFor (step_of_begun workbench.language text b).stage
begun-waits text Nothing own = tt
begun-waits text Bad own = tt
begun-waits text (Takes count) own = taking-waits text count (eqb count 0) refl own
begun-waits text Ends own = tt

line-waits : (line : List ℕ) (long : Bool) → ltb 4096 (length line) ≡ long → question_of (words_of (text_of line)) ≡ None → WaitsFor (step_of_line workbench.language line).stage
unfolding step_of_line
line-waits line true e own = rw e tt
line-waits line false e own = rw e (begun-waits (text_of line) (workbench.language.begins (text_of line)) own)

more-waits : (text : List ℕ) (left : ℕ) (lines : List (List ℕ)) (b : Bool) → eqb left 1 ≡ b → question_of (words_of text) ≡ None → WaitsFor (step_of_more workbench.language text left lines).stage
unfolding step_of_more
more-waits text left lines true e own = rw e tt
more-waits text left lines false e own = rw e own

step-waits : (stage : Stage) (line : List ℕ) → WaitsFor stage → AsksNothing stage line → WaitsFor (step workbench.language stage line).stage
step-waits idle line waits own = line-waits line (ltb 4096 (length line)) refl own
step-waits (taking text left lines) line waits own = more-waits text left (lines ++ text_of line ∷ []) (eqb left 1) refl waits
step-waits over line waits own = tt

-- ---- the orders of a script

map-append : {A B : Type 0} (f : A → B) (xs ys : List A) → map f (xs ++ ys) ≡ map f xs ++ map f ys
map-append f [] ys = refl
map-append f (x ∷ xs) ys = ap (λ zs. f x ∷ zs) (map-append f xs ys)

orders-same : (stage : Stage) (lines : List (List ℕ)) → WaitsFor stage → NoneAsks stage lines → orders_from language stage lines ≡ map shell (orders_from workbench.language stage lines)
orders-same stage [] waits own = refl
orders-same stage (line ∷ lines) waits own =
    let next = step workbench.language stage line in
    ap (λ (s : Step Order). s.orders ++ orders_from language s.stage lines) (step-same stage line waits own.0)
    ∙ ap (λ os. map shell next.orders ++ os) (orders-same next.stage lines (step-waits stage line waits own.0) own.1)
    ∙ sym (map-append shell next.orders (orders_from workbench.language next.stage lines))

stage-same : (stage : Stage) (lines : List (List ℕ)) → WaitsFor stage → NoneAsks stage lines → stage_from language stage lines ≡ stage_from workbench.language stage lines
stage-same stage [] waits own = refl
stage-same stage (line ∷ lines) waits own =
    let next = step workbench.language stage line in
    ap (λ (s : Step Order). stage_from language s.stage lines) (step-same stage line waits own.0) ∙ stage-same next.stage lines (step-waits stage line waits own.0) own.1

end-same : (stage : Stage) → orders_at_end language stage ≡ map shell (orders_at_end workbench.language stage)
end-same idle = refl
end-same (taking text left lines) = refl
end-same over = refl

pub lines-lifted : (lines : List (List ℕ)) → NoneAsks idle lines → script.orders_in language lines ≡ map shell (script.orders_in workbench.language lines)
unfolding script.orders_in
lines-lifted lines own = orders-same idle lines tt own

pub script-lifted : (text : List ℕ) → NoneAsks idle (all_lines text) → script.orders_of language text ≡ map shell (script.orders_of workbench.language text)
unfolding script.orders_of
script-lifted text own =
    let lines = all_lines text in
    let first = orders_from workbench.language idle lines in
    ap (λ os. os ++ orders_at_end language (stage_from language idle lines)) (orders-same idle lines tt own)
    ∙ ap (λ os. map shell first ++ os) (ap (orders_at_end language) (stage-same idle lines tt own) ∙ end-same (stage_from workbench.language idle lines))
    ∙ sym (map-append shell first (orders_at_end workbench.language (stage_from workbench.language idle lines)))

-- ---- the answers to orders of the workbench

session-on-now : {start last : Both} {text : List ℕ} (orders : List workbench_order.Order) → Session start (map shell orders) text last
    → workbench.Session start.now orders text last.now × (last.before ≡ start.before)
session-on-now [] none = (none, refl)
session-on-now (o ∷ os) (more first rest) =
    let after = session-on-now os rest in
    (more first.answers after.0, after.1 ∙ first.before)

session-lifted : {start last : Kept} {orders : List workbench_order.Order} {text : List ℕ} (before : Kept) → workbench.Session start orders text last
    → Session (record { now = start; before = before }) (map shell orders) text (record { now = last; before = before })
session-lifted before none = none
session-lifted before (more first rest) = more (record { answers = first; before = refl }) (session-lifted before rest)

pub answered-alike : (orders : List workbench_order.Order) → AreAnsweredAlike (map shell orders) orders
answered-alike orders start last text = (
  λ session. session-on-now orders session,
  λ h. subst (λ (before : Kept). Session start (map shell orders) text (record { now = last.now; before = before })) (sym h.1) (session-lifted start.before h.0),
)

-- orders that are those of the workbench
pub answered-alike-as : (all : List Order) (orders : List workbench_order.Order) → all ≡ map shell orders → AreAnsweredAlike all orders
answered-alike-as all orders same = subst (λ (os : List Order). AreAnsweredAlike os orders) (sym same) (answered-alike orders)
