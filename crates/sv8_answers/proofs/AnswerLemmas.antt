-- Lemmas on answers.
use Rattle.std.proofs.Common.{◌≡◌, ℕ, ◌-◌, ◌<◌, ◌≤◌, ◌⊎◌, Bool, true, false, List, ◌++◌, length, take, drop, Option, Some, None, Result, refl, sym, ap, ◌∙◌, subst, arith, tests, leb, ltb, cond, inl, inr, length-take, length-append, option_map, OnOk, OnErr, IfErr, Ok, Err}
use Rattle.std.proofs.lemmas.List.{take_all}
use Rattle.sv8_model.specs.declared.refused.Refused.{Refused}
use Rattle.sv8_model.specs.declared.refused.Refused.TheVariants.{OutOfMemory, By}
use Rattle.sv8_model.specs.Refused.{ByFault, IsRefused}
use Rattle.sv8_workbench.specs.declared.fault.BenchFault.{BenchFault}
use Rattle.sv8_workbench.specs.declared.fault.BenchFault.TheVariants.{Source, Time}
use Rattle.sv8_workbench.specs.Kept.{edited, with_timeline}
use Rattle.sv8_workbench.specs.Faults.{edit_refusal}
use Rattle.sv8_time.specs.declared.fault.TimeFault.{TimeFault}
use Rattle.sv8_time.specs.declared.fault.TimeFault.TheVariants as time
use Rattle.sv8_time.specs.declared.edit.TimelineEdit.TheVariants.{SetInput}
use Rattle.sv8_time.specs.Schedule.{Schedule, with_input, set_input_fault, has_input, is_one_too_many}
use Rattle.sv8_statements.specs.declared.fault.LineFault.TheVariants as line
use Rattle.sv8_source.specs.declared.fault.SourceFault.{SourceFault}
use Rattle.sv8_source.specs.declared.fault.SourceFault.TheVariants as source
use Rattle.sv8_source.specs.Text.{Text, replaced, is_range, text_fault, edit_fault}
use Rattle.sv8_commands.specs.Refusal.{bad_command}
use Rattle.sv8_answers.specs.Refusal.{refusal_of}
use Rattle.sv8_commands.specs.Text.{ok_line, refusal_line}
use Rattle.sv8_answers.specs.Outcome.{Outcome, changed, refused, unless_refused, may_lack_memory, answer_to, Answers, due, lacking}
use Rattle.sv8_answers.specs.Commands.{edit_outcome, timeline_outcome}
use Rattle.sv8_commands.specs.Order.{edit, bad}
use Rattle.sv8_answers.specs.Session.{State, outcome}
use Rattle.sv8_session.specs.Put.{Puts}
use Rattle.sv8_answers.specs.Put.{Replies, edit_text}

-- the answer that is due, under other names
answers-due : (s : State) (o : Outcome) (t : List ℕ) (l : State) → (answer_to s o).text ≡ t → (answer_to s o).next ≡ l → Answers s o t l
answers-due s o t l p q = subst (λ (v : List ℕ). Answers s o v l) p (subst (λ (v : State). Answers s o (answer_to s o).text v) q due)

-- an answer that is due
pub reply-due : {A E : Type 0} (r : Result A E) (a b : Option (List ℕ)) (s : State) (o : Outcome) → Puts r a b (answer_to s o).text → Replies r a b s o (answer_to s o).next
reply-due r a b s o put = record { text = (answer_to s o).text; answers = due; put = put }

-- a command that is done, whatever it asks
pub reply-done : {A E : Type 0} (r : Result A E) (a b : Option (List ℕ)) (s l : State) (refusal : Option BenchFault) (o : Outcome) (t : List ℕ) → refusal ≡ None → (answer_to s o).text ≡ t → (answer_to s o).next ≡ l
    → Puts r a b t → Replies r a b s (unless_refused refusal o) l
reply-done r a b s l refusal o t h p q put =
    record { text = t; answers = subst (λ (f : Option BenchFault). Answers s (unless_refused f o) t l) (sym h) (answers-due s o t l p q); put = put }

refused-cases : (s : State) (refusal : Option BenchFault) (o : Outcome) (f : Refused BenchFault) → IsRefused refusal f → may_lack_memory o ≡ true → Answers s (unless_refused refusal o) (refusal_line (refusal_of f)) s
refused-cases s refusal o OutOfMemory h m = subst (λ (g : Option BenchFault). Answers s (unless_refused g o) (refusal_line (refusal_of OutOfMemory)) s) (sym h) (lacking m)
refused-cases s refusal o (By f) h m = subst (λ (g : Option BenchFault). Answers s (unless_refused g o) (refusal_line (refusal_of (By f))) s) (sym h) due

-- a command that is refused, whatever it asks
pub reply-refused : {A E : Type 0} (r : Result A E) (a b : Option (List ℕ)) (s l : State) (refusal : Option BenchFault) (o : Outcome) (f : Refused BenchFault) → IsRefused refusal f → may_lack_memory o ≡ true → l ≡ s
    → Puts r a b (refusal_line (refusal_of f)) → Replies r a b s (unless_refused refusal o) l
reply-refused r a b s l refusal o f h m n put =
    subst (λ (v : State). Replies r a b s (unless_refused refusal o) v) (sym n) (record { text = refusal_line (refusal_of f); answers = refused-cases s refusal o f h m; put = put })

pub reply-bad : {A E : Type 0} (r : Result A E) (a b : Option (List ℕ)) (s : State) → Puts r a b (refusal_line bad_command) → Replies r a b s (outcome s bad) s
unfolding outcome
reply-bad r a b s put = record { text = refusal_line bad_command; answers = due; put = put }

-- ---- an edit of the source, in whose refusal's place want of memory may stand

lacks : (e : SourceFault) → may_lack_memory (refused (refusal_of (By (Source e)))) ≡ true
lacks source.NoSuchLine = refl
lacks source.TooManyLines = refl
lacks (source.Line number line.LineTooLong) = refl
lacks (source.Line number line.NotAscii) = refl
lacks (source.Line number line.Syntax) = refl
lacks (source.Line number line.UnknownName) = refl
lacks (source.Line number line.DuplicateLabel) = refl
lacks (source.Line number line.OutOfRange) = refl
lacks (source.Line number line.BadAlignment) = refl
lacks (source.Line number line.OrgBackwards) = refl
lacks (source.Line number line.ImageTooLarge) = refl

edit_lacks : (fault : Option SourceFault) (next : State) → may_lack_memory (unless_refused (option_map Source fault) (changed next)) ≡ true
edit_lacks None next = refl
edit_lacks (Some e) next = lacks e

pub reply-lost : {A E : Type 0} (r : Result A E) (a b : Option (List ℕ)) (s : State) (first last : ℕ) (lines : List (List ℕ)) → Puts r a b (refusal_line (refusal_of OutOfMemory))
    → Replies r a b s (outcome s (edit first last lines)) s
unfolding outcome
reply-lost r a b s first last lines put =
    record { text = refusal_line (refusal_of OutOfMemory); answers = lacking (edit_lacks (edit_fault first last lines s.source) (edited first last lines s)); put = put }

-- ---- an edit of which at most 65,537 lines were kept

-- the lines are those given, or both are too many
SameOrMany : List (List ℕ) → List (List ℕ) → Type 0
SameOrMany lines kept = (lines ≡ kept) ⊎ ((65536 < length lines) × (65536 < length kept))

kept_cases : (lines kept : List (List ℕ)) → lines ≡ take 65537 kept → (b : Bool) → leb (length kept) 65537 ≡ b → SameOrMany lines kept
unfolding SameOrMany
kept_cases lines kept e true h = inl (e ∙ take_all 65537 kept (search (arith, tests)))
kept_cases lines kept e false h =
    let many : 65537 < length kept = search (arith, tests) in
    inr (omega (arith, ap length e, length-take 65537 kept), omega arith)

-- more than 65,536 lines are refused whatever they are
many_lines : (a : ℕ) (s : Text) → 65536 < a → a ≤ length s.lines → text_fault s ≡ Some source.TooManyLines
many_lines a s p q = let x : ltb 65536 (length s.lines) ≡ true = search (arith, tests) in rw x refl

replaced_many : (first last : ℕ) (lines : List (List ℕ)) (s : Text) → length lines ≤ length (take (first - 1) s.lines ++ lines ++ drop last s.lines)
replaced_many first last lines s =
    omega (arith, length-append (take (first - 1) s.lines ++ lines) (drop last s.lines), length-append (take (first - 1) s.lines) lines)

many_refusal : (first last : ℕ) (lines : List (List ℕ)) (k : State) (r : Bool) → is_range first last (length k.source.lines) ≡ r → 65536 < length lines
    → edit_refusal first last lines k ≡ option_map Source (cond r (Some source.TooManyLines) (Some source.NoSuchLine))
many_refusal first last lines k r e p =
    let q = many_lines (length lines) (replaced first last lines k.source) p (replaced_many first last lines k.source) in
    rw (e, q) refl

edit_refusal-cases : (first last : ℕ) (s : State) (lines kept : List (List ℕ)) → SameOrMany lines kept → edit_refusal first last lines s ≡ edit_refusal first last kept s
unfolding SameOrMany
edit_refusal-cases first last s lines kept (inl e) = ap (λ (l : List (List ℕ)). edit_refusal first last l s) e
edit_refusal-cases first last s lines kept (inr m) =
    many_refusal first last lines s (is_range first last (length s.source.lines)) refl m.0 ∙ sym (many_refusal first last kept s (is_range first last (length s.source.lines)) refl m.1)

many_refused : (first last : ℕ) (lines : List (List ℕ)) (k : State) (r : Bool) → is_range first last (length k.source.lines) ≡ r → 65536 < length lines → edit_refusal first last lines k ≡ None → ⊥
many_refused first last lines k true e p h = let g = sym (many_refusal first last lines k true e p) ∙ h in cc
many_refused first last lines k false e p h = let g = sym (many_refusal first last lines k false e p) ∙ h in cc

done_cases : (s : State) (first last : ℕ) (lines kept : List (List ℕ)) → SameOrMany lines kept → edit_refusal first last lines s ≡ None → lines ≡ kept
unfolding SameOrMany
done_cases s first last lines kept (inl same) h = same
done_cases s first last lines kept (inr m) h = absurd (many_refused first last lines s (is_range first last (length s.source.lines)) refl m.0 h)

reply-edited : {A E : Type 0} (r : Result A E) (a b : Option (List ℕ)) (s l : State) (first last : ℕ) (lines kept : List (List ℕ)) → lines ≡ take 65537 kept → edit_refusal first last lines s ≡ None
    → l ≡ edited first last lines s → Puts r a b ok_line → Replies r a b s (edit_outcome first last kept s) l
reply-edited r a b s l first last lines kept e h n put =
    let same : lines ≡ kept = done_cases s first last lines kept (kept_cases lines kept e (leb (length kept) 65537) refl) h in
    subst (λ (k : List (List ℕ)). Replies r a b s (edit_outcome first last k s) l) same
    (reply-done r a b s l (edit_refusal first last lines s) (changed (edited first last lines s)) ok_line h refl (sym n) put)

not_edited : (s : State) (first last : ℕ) (kept : List (List ℕ)) (f : Refused BenchFault) → ByFault (λ e. edit_refusal first last kept s ≡ Some e) f → Answers s (edit_outcome first last kept s) (refusal_line (refusal_of f)) s
not_edited s first last kept OutOfMemory h = lacking (edit_lacks (edit_fault first last kept s.source) (edited first last kept s))
not_edited s first last kept (By f) h =
    subst (λ (g : Option BenchFault). Answers s (unless_refused g (changed (edited first last kept s))) (refusal_line (refusal_of (By f))) s) (sym h) due

also_refused : (first last : ℕ) (s : State) (lines kept : List (List ℕ)) (f : Refused BenchFault) → edit_refusal first last lines s ≡ edit_refusal first last kept s → ByFault (λ e. edit_refusal first last lines s ≡ Some e) f
    → ByFault (λ e. edit_refusal first last kept s ≡ Some e) f
also_refused first last s lines kept OutOfMemory same h = tt
also_refused first last s lines kept (By f) same h = sym same ∙ h

reply-not-edited : {A E : Type 0} (r : Result A E) (a b : Option (List ℕ)) (s l : State) (first last : ℕ) (lines kept : List (List ℕ)) (f : Refused BenchFault) → lines ≡ take 65537 kept
    → ByFault (λ e. edit_refusal first last lines s ≡ Some e) f → l ≡ s → Puts r a b (refusal_line (refusal_of f)) → Replies r a b s (edit_outcome first last kept s) l
reply-not-edited r a b s l first last lines kept f e h n put =
    let same = edit_refusal-cases first last s lines kept (kept_cases lines kept e (leb (length kept) 65537) refl) in
    let why = also_refused first last s lines kept f same h in
    subst (λ (v : State). Replies r a b s (edit_outcome first last kept s) v) (sym n) (record { text = refusal_line (refusal_of f); answers = not_edited s first last kept f why; put = put })

pub reply-source : {A E : Type 0} (r : Result A E) (edit : Result (Unit {0}) (Refused BenchFault)) (a b : Option (List ℕ)) (s l : State) (first last : ℕ) (lines kept : List (List ℕ)) → lines ≡ take 65537 kept
    → OnOk edit (edit_refusal first last lines s ≡ None) → OnOk edit (l ≡ edited first last lines s) → IfErr edit (ByFault (λ f. edit_refusal first last lines s ≡ Some f)) → OnErr edit (l ≡ s)
    → Puts r a b (edit_text edit) → Replies r a b s (edit_outcome first last kept s) l
reply-source r (Ok u) a b s l first last lines kept e ok new err old put = reply-edited r a b s l first last lines kept e ok new put
reply-source r (Err f) a b s l first last lines kept e ok new err old put = reply-not-edited r a b s l first last lines kept f e err old put

-- ---- an input of which at most 1,025 bytes were handed on

-- they are those given, or both are too many
FirstOrLong : List ℕ → List ℕ → Type 0
FirstOrLong first bytes = (first ≡ bytes) ⊎ ((1024 < length first) × (1024 < length bytes))

first_cases : (first bytes : List ℕ) → first ≡ take 1025 bytes → (b : Bool) → leb (length bytes) 1025 ≡ b → FirstOrLong first bytes
unfolding FirstOrLong
first_cases first bytes e true h = inl (e ∙ take_all 1025 bytes (search (arith, tests)))
first_cases first bytes e false h =
    let many : 1025 < length bytes = search (arith, tests) in
    inr (omega (arith, ap length e, length-take 1025 bytes), omega arith)

-- the fault of an input whose bytes are this long or not
input_fault : ℕ → Bool → Schedule → Option TimeFault
input_fault step long s =
    cond (ltb 1000000 step) (Some time.StepTooLarge) (cond (is_one_too_many (has_input step s.inputs) s) (Some time.TooManyEvents) (cond long (Some time.InputTooLong) None))

input_fault-is : (step : ℕ) (bytes : List ℕ) (s : Schedule) → set_input_fault step bytes s ≡ input_fault step (ltb 1024 (length bytes)) s
unfolding input_fault
input_fault-is step bytes s = refl

is_long : (bytes : List ℕ) → 1024 < length bytes → ltb 1024 (length bytes) ≡ true
is_long bytes h = search (arith, tests)

-- a long one is refused whatever its bytes are
long_refused : (step : ℕ) (s : Schedule) (a b : Bool) (one other : Outcome)
    → unless_refused (option_map Time (cond a (Some time.StepTooLarge) (cond b (Some time.TooManyEvents) (Some time.InputTooLong)))) one
    ≡ unless_refused (option_map Time (cond a (Some time.StepTooLarge) (cond b (Some time.TooManyEvents) (Some time.InputTooLong)))) other
long_refused step s true b one other = refl
long_refused step s false true one other = refl
long_refused step s false false one other = refl

long_fault : (step : ℕ) (bytes : List ℕ) (s : Schedule) → 1024 < length bytes → set_input_fault step bytes s ≡ input_fault step true s
long_fault step bytes s h = input_fault-is step bytes s ∙ ap (λ l. input_fault step l s) (is_long bytes h)

first_outcome : (step : ℕ) (first bytes : List ℕ) (kept : State) → FirstOrLong first bytes → timeline_outcome (SetInput step first) kept ≡ timeline_outcome (SetInput step bytes) kept
unfolding FirstOrLong input_fault
first_outcome step first bytes kept (inl e) = ap (λ b. timeline_outcome (SetInput step b) kept) e
first_outcome step first bytes kept (inr m) =
    ap (λ f. unless_refused (option_map Time f) (changed (with_timeline (with_input step first kept.timeline) kept))) (long_fault step first kept.timeline m.0)
    ∙ long_refused step kept.timeline (ltb 1000000 step) (is_one_too_many (has_input step kept.timeline.inputs) kept.timeline) _ _
    ∙ sym (ap (λ f. unless_refused (option_map Time f) (changed (with_timeline (with_input step bytes kept.timeline) kept))) (long_fault step bytes kept.timeline m.1))

-- so they are answered as all of them
pub reply-first : {A E : Type 0} (r : Result A E) (a b : Option (List ℕ)) (s l : State) (step : ℕ) (first bytes : List ℕ) → first ≡ take 1025 bytes
    → Replies r a b s (timeline_outcome (SetInput step first) s) l → Replies r a b s (timeline_outcome (SetInput step bytes) s) l
reply-first r a b s l step first bytes e h =
    subst (λ o. Replies r a b s o l) (first_outcome step first bytes s (first_cases first bytes e (leb (length bytes) 1025) refl)) h
