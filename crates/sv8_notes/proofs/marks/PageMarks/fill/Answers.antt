use Rattle.std.proofs.Common.{vec_len, rules, arith, ◌≡◌, ◌≤◌, ◌∙◌, ap, get_or, length}
use Rattle.sv8_notes.proofs.Marking.{filled}
use Rattle.sv8_notes.proofs.marks.PageMarks.fill.Goals as goal

pub returns-in_ok-resize-clause-same : goal.returns-in_ok-resize-clause-same
returns-in_ok-resize-clause-same c = λ i.
    let long : c.len.result ≡ length c.self.inside.words.items = search rules in
    let size : vec_len c.self.inside.words ≡ length c.self.inside.words.items = search rules in
    let few : length c.self.inside.words.items ≤ 1024 = omega (arith, long, c.if-len-lt-PAGE_WORDS.true) in
    filled c.self.inside.words.items c.resize.new.self.items 1024 few (rw (← size) c.in_ok-resize.ensures.items) i ∙ ap (λ xs. get_or xs i 0) c.self.view_is
