use Rattle.std.proofs.Common.{◌≡◌, ◌∙◌, Bool, false, cond, Some, None, refl, sym, ap}
use Rattle.sv8_model.specs.declared.refused.Refused.TheVariants.{By}
use Rattle.sv8_source.specs.declared.fault.SourceFault.TheVariants.{NoSuchLine}
use Rattle.sv8_workbench.specs.declared.fault.BenchFault.TheVariants.{Source}
use Rattle.sv8_answers.specs.Refusal.{refusal_of}
use Rattle.sv8_answers.specs.Outcome.{told, refused}
use Rattle.sv8_answers.proofs.AnswerLemmas.{reply-done, reply-due}
use Rattle.sv8_monitor.specs.Answers.{lines_refusal, lines_told}
use Rattle.sv8_monitor.proofs.answers.answer_lines.Goals as goal

pub returns-then-are_lines : goal.returns-then-are_lines
returns-then-are_lines g c =
    let kept = c.args.bench.now.kept in
    let right : lines_refusal c.args.first c.args.last kept ≡ None = ap (λ (b : Bool). cond b None (Some (Source NoSuchLine))) (sym c.are_lines.ensures ∙ c.if-are_lines.true) in
    reply-done c.tell_lines.result _ _ _ _ (lines_refusal c.args.first c.args.last kept) (told false (lines_told c.args.first c.args.last kept)) _ right refl refl c.tell_lines.ensures

pub returns-else-are_lines : goal.returns-else-are_lines
returns-else-are_lines g c =
    let kept = c.args.bench.now.kept in
    let wrong : lines_refusal c.args.first c.args.last kept ≡ Some (Source NoSuchLine) = ap (λ (b : Bool). cond b None (Some (Source NoSuchLine))) (sym c.are_lines.ensures ∙ c.if-are_lines.false) in
    rw wrong (reply-due c.refuse.result _ _ _ (refused (refusal_of (By (Source NoSuchLine)))) (rw c.refusal_of.ensures.value at c.refuse.ensures))
