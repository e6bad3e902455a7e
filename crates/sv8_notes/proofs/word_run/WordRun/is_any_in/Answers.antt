use Rattle.std.proofs.Common.{ap, sym, ◌∙◌}
use Rattle.sv8_notes.specs.Touching.{is_note_in}
use Rattle.sv8_notes.proofs.RunsOfWords.{found_at, passed_at}
use Rattle.sv8_notes.proofs.word_run.WordRun.is_any_in.Goals as goal

pub returns-then-is_in : goal.returns-then-is_in
returns-then-is_in c =
    let test = is_note_in c.args.low c.args.last c.args.from c.args.end in
    sym (sym c.loop-place.invariant
    ∙ found_at test c.args.self.now.address c.args.self.now.first c.args.self.now.count c.loop-place.place c.loop-place-test.true (ap test (sym c.word.ensures) ∙ sym c.if-is_in.ensures))

pub loop-place-preserved : goal.loop-place-preserved
loop-place-preserved c =
    let test = is_note_in c.args.low c.args.last c.args.from c.args.end in
    passed_at test c.args.self.now.address c.args.self.now.first c.args.self.now.count c.loop-place.place c.loop-place-test.true (ap test (sym c.word.ensures) ∙ sym c.if-is_in.ensures)
    ∙ c.loop-place.invariant
