use Rattle.std.proofs.Common.{◌≡◌, ◌∙◌, ◌+◌, ◌*◌, ◌-◌, ℕ, Bool, ap, sym, arith}
use Rattle.std.specs.Prelude.{◌||◌}
use Rattle.sv8_notes.specs.declared.notes.WordNote.{WordNote}
use Rattle.sv8_notes.specs.Touching.{is_note_in, are_notes_in}
use Rattle.sv8_notes.specs.WordRuns.{words_from}
use Rattle.sv8_notes.proofs.Flagging.{flag_next}
use Rattle.sv8_notes.proofs.RunsOfWords.{split}
use Rattle.sv8_notes.proofs.word_run.WordRun.flag.Goals as goal

pub loop-place-preserved : goal.loop-place-preserved
loop-place-preserved c =
    let a = c.args.self.now.address in
    let o = c.args.self.now.first in
    let count = c.args.self.now.count in
    let p = c.loop-place.place in
    let inv = c.loop-place.invariant in
    let flagged = c.flag.ensures in
    let test : ℕ → WordNote → Bool = λ i. is_note_in c.args.low c.args.last (c.args.from + i) (c.args.from + i + 1) in
    let rest : ℕ → Bool = λ i. are_notes_in c.args.low c.args.last (c.args.from + i) (c.args.from + i + 1) (words_from (a + 4 * (p + 1)) (o + (p + 1)) (count - (p + 1))) in
    let all : ℕ → Bool = λ i. are_notes_in c.args.low c.args.last (c.args.from + i) (c.args.from + i + 1) (words_from (a + 4 * p) (o + p) (count - p)) in
    let here : ℕ → Bool = λ i. test i c.word.result in
    let both : (i : ℕ) → all i ≡ (here i || rest i) = λ i. split (test i) a o count p c.loop-place-test.true ∙ ap (λ (w : WordNote). test i w || rest i) (sym c.word.ensures) in
    record {
      count = flagged.count ∙ inv.count;
      flags = λ i inside. flag_next c.loop-place.flags c.flag.new.flags here rest all flagged both i (omega (arith, inside, inv.count)) ∙ inv.flags i inside;
    }
