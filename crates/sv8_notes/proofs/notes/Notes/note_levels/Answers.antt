use Rattle.std.proofs.Common.{◌-◌, ◌&&◌, ◌||◌, ◌==◌, ap, ◌∙◌, arith}
use Rattle.std.specs.List.{list_any}
use Rattle.sv8_model.specs.Words.{bit}
use Rattle.sv8_notes.specs.Steps.{Steps, is_asked_in}
use Rattle.sv8_notes.proofs.Gaining.{any_last}
use Rattle.sv8_notes.proofs.notes.Notes.note_levels.Goals as goal

pub returns-then-extend-clause-asked : goal.returns-then-extend-clause-asked
returns-then-extend-clause-asked c = λ l j.
    let more = j == c.args.offset && bit c.args.levels l in
    any_last (is_asked_in l j) c.self.inside.levels.items (c.len-count.result - 1) c.index_mut.result.now c.extend.new.self more (omega arith)
    (c.if-extend.ensures l j ∙ ap (λ r. is_asked_in l j r || more) c.index_mut.ensures.value)
    ∙ ap (λ (s : Steps). list_any (is_asked_in l j) s.levels || more) c.self.view_is
