use Rattle.sv8_notes.specs.Steps.{is_word_of}
use Rattle.sv8_notes.proofs.Firsts.{first_taken}
use Rattle.sv8_notes.proofs.notes.first_of_word.Goals as goal

pub loop-note-preserved : goal.loop-note-preserved
loop-note-preserved c =
    first_taken (λ y n. is_word_of c.args.address n y) c.args.notes.now c.loop-note.note-index _ c.args.from c.args.end c.loop-note.found c.first.result c.lesser-found.result
    c.loop-note-test.true c.lesser-found.ensures c.loop-note.invariant c.first.ensures
