-- Lemmas on edits of a workbench.
use Rattle.std.proofs.Common.{◌≡◌, ◌∙◌, ℕ, List, Option, None, Result, Ok, Err, OnOk, OnErr, IfOk, IfErr, refl, sym, ap, option_map}
use Rattle.sv8_model.specs.declared.refused.Refused.{Refused}
use Rattle.sv8_model.specs.Refused.{IsRefused}
use Rattle.sv8_time.specs.declared.edit.TimelineEdit.{TimelineEdit}
use Rattle.sv8_time.specs.Edits.{timeline_fault, with_edit}
use Rattle.sv8_workbench.specs.declared.fault.BenchFault.{BenchFault}
use Rattle.sv8_workbench.specs.declared.fault.BenchFault.TheVariants.{Time}
use Rattle.sv8_workbench.specs.Kept.{Kept, with_timeline}
use Rattle.sv8_session.specs.Put.{Puts}
use Rattle.sv8_commands.specs.Text.{ok_line}
use Rattle.sv8_answers.specs.declared.effect.Effect.{Effect}
use Rattle.sv8_answers.specs.declared.effect.Effect.TheVariants.{Edited, Unchanged}
use Rattle.sv8_answers.specs.Outcome.{changed}
use Rattle.sv8_answers.specs.Commands.{timeline_outcome}
use Rattle.sv8_answers.specs.Put.{Replies, edit_text}
use Rattle.sv8_answers.proofs.AnswerLemmas.{reply-done, reply-refused}

-- an edit that has no effect was refused
pub unless-edited : {E : Type 0} (edit : Result (Unit {0}) (Refused BenchFault)) (r : Result Effect E) (old new : Kept) → OnErr edit (new ≡ old) → OnOk edit (IfOk r (λ e. e ≡ Edited))
    → IfOk r (λ e. e ≡ Unchanged → new ≡ old)
unless-edited edit (Err f) old new err ok = tt
unless-edited (Err x) (Ok e) old new err ok = λ same. err
unless-edited (Ok u) (Ok e) old new err ok = λ same. let both = sym ok ∙ same in cc

-- an edit of the timeline
pub reply-timeline : {A E : Type 0} (r : Result A E) (result : Result (Unit {0}) (Refused BenchFault)) (a b : Option (List ℕ)) (e : TimelineEdit) (old new : Kept)
    → OnOk result (timeline_fault e old.timeline ≡ None) → OnOk result (new ≡ with_timeline (with_edit e old.timeline) old) → IfErr result (IsRefused (option_map Time (timeline_fault e old.timeline)))
    → OnErr result (new ≡ old) → Puts r a b (edit_text result) → Replies r a b old (timeline_outcome e old) new
reply-timeline r (Ok u) a b e old new accepted edited refused unchanged put =
    reply-done r a b old new (option_map Time (timeline_fault e old.timeline)) (changed (with_timeline (with_edit e old.timeline) old)) ok_line
    (ap (option_map Time) accepted) refl (sym edited) put
reply-timeline r (Err f) a b e old new accepted edited refused unchanged put =
    reply-refused r a b old new (option_map Time (timeline_fault e old.timeline)) (changed (with_timeline (with_edit e old.timeline) old)) f
    refused refl unchanged put
