use Rattle.std.proofs.Common.{◌∙◌, ap, subst, sym}
use Rattle.sv8_touches.specs.Told.{told}
use Rattle.sv8_notes.specs.Steps.{Gains, Steps}
use Rattle.sv8_notes.specs.Recording.{Recording, with_run, with_touches}
use Rattle.sv8_notes.proofs.Gaining.{gains_beside}
use Rattle.sv8_notes.proofs.Recorded.{ended_gains, long_gains}
use Rattle.sv8_notes.proofs.recorder.Recorder.record.Goals as goal

pub returns-then-not-may_be_frequent : goal.returns-then-not-may_be_frequent
returns-then-not-may_be_frequent c =
    let ts = c.args.touches.now in
    let new = with_run c.note_told.new.self c.self.inside.run in
    long_gains c.args.self.now.notes new c.args.offset ts (sym c.may_be_frequent.ensures ∙ c.if-not-may_be_frequent.true)
    (subst (λ (s : Steps). Gains c.args.offset (told ts) (told ts) s new) (ap (λ (r : Recording). r.notes) c.self.view_is)
    (gains_beside c.args.offset (told ts) (told ts) _ c.note_told.new.self c.self.inside.run c.in_ok-note_told.ensures))

pub returns : goal.returns
returns c =
    ended_gains c.args.self.now.notes c.end.new.self.notes c.args.offset c.args.touches.now c.note_all.new.self
    (c.in_ok-note_all.ensures ∙ ap (λ r. with_touches r c.args.touches.now) c.begin.ensures) c.in_ok-end.ensures
