use Rattle.std.proofs.Common.{rules, sym, ◌∙◌, take_all}
use Rattle.sv8_touches.specs.Told.{is_told}
use Rattle.sv8_notes.proofs.Gaining.{gains_levels, gains_nothing}
use Rattle.sv8_notes.proofs.Telling.{levels_all, levels_more, noted_as_before, noted_more, told_alone, told_with_levels}
use Rattle.sv8_notes.proofs.notes.Notes.note_told.Goals as goal
use Rattle.sv8_notes.proofs.notes.Notes.note_told.Goals.{then-is_told+in_ok-note, else-is_told}

pub loop-touch-init : goal.loop-touch-init
loop-touch-init c = record { noted = gains_nothing c.args.offset c.args.self.now; gathered = search rules }

pub loop-touch-preserved : goal.loop-touch-preserved
loop-touch-preserved c =
    let ts = c.args.touches.now in
    let i = c.loop-touch.touch-index in
    let inside = c.loop-touch-test.true in
    let before = c.loop-touch.invariant.noted in
    record {
      noted = elim c.if-is_told.branch [
        | then-is_told+in_ok-note w ↦ rw w.self-is (noted_more c.args.offset (is_told ts) ts i _ _ _ _ inside (sym c.is_told.ensures ∙ w.if-is_told.true) before w.in_ok-note.ensures)
        | else-is_told w ↦ rw w.self-is (noted_as_before c.args.offset (is_told ts) ts i _ _ _ inside (sym c.is_told.ensures ∙ w.if-is_told.false) before)
      ];
      gathered = levels_more c.loop-touch.levels ts i _ _ _ inside c.levels_of-levels.ensures c.loop-touch.invariant.gathered;
    }

pub returns-in_ok-note_levels : goal.returns-in_ok-note_levels
returns-in_ok-note_levels c =
    let ts = c.args.touches.now in
    let e = take_all c.loop-touch.touch-index ts c.loop-touch-test.false in
    let noted = c.loop-touch.invariant.noted in
    let more = c.in_ok-note_levels.ensures in
    let all = levels_all c.loop-touch.levels ts c.loop-touch.touch-index _ c.loop-touch-test.false c.loop-touch.invariant.gathered in
    told_with_levels c.args.offset ts c.loop-touch.levels c.args.self.now c.loop-touch.self c.note_levels.new.self all c.if-levels-ne0.true (rw e at noted)
    (gains_levels c.args.offset c.loop-touch.self c.loop-touch.levels c.note_levels.new.self more.others more.asked)

pub returns-else-levels-ne0 : goal.returns-else-levels-ne0
returns-else-levels-ne0 c =
    let ts = c.args.touches.now in
    let e = take_all c.loop-touch.touch-index ts c.loop-touch-test.false in
    let noted = c.loop-touch.invariant.noted in
    let all = levels_all c.loop-touch.levels ts c.loop-touch.touch-index _ c.loop-touch-test.false c.loop-touch.invariant.gathered in
    told_alone c.args.offset ts c.loop-touch.levels c.args.self.now c.loop-touch.self all c.if-levels-ne0.false (rw e at noted)
