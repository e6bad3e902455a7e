use Rattle.std.proofs.Common.{ap, ◌∙◌}
use Rattle.sv8_notes.specs.WordRuns.{words_of}
use Rattle.sv8_notes.proofs.RunsOfWords.{one_run, words_with}
use Rattle.sv8_notes.proofs.notes.Notes.note_run.Goals as goal

pub returns : goal.returns
returns c =
    one_run c.args.run _ c.args.self.now (words_of c.push.new.items.items) c.self.view_is
    (ap words_of c.in_ok-push.ensures ∙ words_with c.self.inside.fetches.items c.args.run)
