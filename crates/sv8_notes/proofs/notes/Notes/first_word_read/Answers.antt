use Rattle.std.proofs.Common.{ap, ap₂, ◌∙◌, ◌||◌}
use Rattle.sv8_notes.specs.Steps.{Steps, has_word}
use Rattle.sv8_notes.specs.WordRuns.{words_of}
use Rattle.sv8_notes.proofs.Firsts.{first_like}
use Rattle.sv8_notes.proofs.notes.Notes.first_word_read.Goals as goal

pub returns : goal.returns
returns c =
    let a = c.args.address in
    let runs = c.deref.result.now in
    let words = c.deref-2.result.now in
    let first = ap words_of c.deref.ensures.value ∙ ap (λ (s : Steps). s.fetches) c.self.view_is in
    let second = c.deref-2.ensures.value ∙ ap (λ (s : Steps). s.reads) c.self.view_is in
    first_like (λ n. has_word (words_of runs) a n || has_word words a n) (λ n. has_word c.args.self.now.fetches a n || has_word c.args.self.now.reads a n) c.args.from c.args.end c.lesser.result
    (λ n. ap₂ (λ xs ys. has_word xs a n || has_word ys a n) first second)
    (c.lesser.ensures (has_word (words_of runs) a) (has_word words a) c.args.from c.args.end c.first_of_runs.ensures c.first_of_word.ensures)
