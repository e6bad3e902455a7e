use Rattle.std.proofs.Common.{[]}
use Rattle.sv8_source.specs.Listing.{listing}
use Rattle.sv8_commands.specs.Text.{ok_line}
use Rattle.sv8_answers.specs.Text.{listing_text}
use Rattle.sv8_commands.proofs.PutLemmas.{puts-failed, Puts-gained, gains-cut}
use Rattle.sv8_answers.proofs.AnswerLemmas.{reply-due}
use Rattle.sv8_answers.proofs.answers.answer_listing.Goals as goal

pub returns : goal.returns
returns g c = reply-due c.accept.result _ _ _ _ (Puts-gained c.accept.result _ _ _ [] _ _ ok_line (rw c.new-text.ensures at c.in_ok-add_listing.ensures) c.accept.ensures)

pub returns-in_err-add_listing : goal.returns-in_err-add_listing
returns-in_err-add_listing g c = reply-due c.from_residual.result _ _ _ _ (puts-failed c.from_residual.result _ _ _ c.from_residual.ensures.0 (gains-cut _ _ [] (listing_text (listing (g.B.Workbench.kept c.args.bench.now).source)) ok_line (rw c.new-text.ensures at c.in_err-add_listing.ensures)))
