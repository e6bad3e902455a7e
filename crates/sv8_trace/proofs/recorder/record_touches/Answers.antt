use Rattle.std.proofs.Common.{ap, ◌∙◌, cond, None}
use Rattle.sv8_notes.specs.Kept.{kept_in}
use Rattle.sv8_notes.specs.Touched.{is_touched}
use Rattle.sv8_notes.proofs.Common.{kept_in-filter, touches_told}
use Rattle.sv8_trace.proofs.recorder.record_touches.Goals as goal

pub returns-clause-kept : goal.returns-clause-kept
returns-clause-kept c = λ j cell.
    ap (kept_in j cell) c.forget.ensures
    ∙ kept_in-filter j cell (is_touched c.args.touches.now) c.args.kept.now
    ∙ ap (λ b. cond b None (kept_in j cell c.args.kept.now)) (touches_told c.args.touches.now cell)
