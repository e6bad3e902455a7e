use Rattle.std.proofs.Common.{◌∙◌, ◌++◌, sym, ap, subst}
use Rattle.std.specs.List.{All, flat_map}
use Rattle.std.proofs.lemmas.List.Elements.{All-nil}
use Rattle.sv8_cpu.specs.Patches.{changes_of, IsPatch}
use Rattle.sv8_edits.proofs.ImageWords.{word_changes, words_more, words_all, four_more, words_are_image}
use Rattle.sv8_edits.proofs.patches.image_patches.Goals as goal

pub loop-change-init : goal.loop-change-init
loop-change-init g c =
    let none = c.new-patches.ensures.items in
    record {
      changes = ap (λ ps. changes_of g.row.NW g.row.PAGES ps ++ flat_map (word_changes g.row.NW g.row.PAGES c.args.reset.now.memory.ram c.args.timeline.now) c.args.words.now) none;
      patches = subst (λ ps. All (IsPatch g.row.PAGES) ps) (sym none) (All-nil (IsPatch g.row.PAGES));
    }

pub loop-change-preserved : goal.loop-change-preserved
loop-change-preserved g c = record {
  changes =
      words_more (word_changes g.row.NW g.row.PAGES c.args.reset.now.memory.ram c.args.timeline.now) c.args.words.now c.loop-change.change-index (record { address = 0; old = 0; new = 0 })
      (changes_of g.row.NW g.row.PAGES c.loop-change.patches.items) (changes_of g.row.NW g.row.PAGES c.add_word.new.patches.items) _ c.loop-change-test.true c.loop-change.invariant.changes
      (c.in_ok-add_word.ensures.changes ∙ four_more (changes_of g.row.NW g.row.PAGES c.loop-change.patches.items) _ _ _ _);
  patches = c.in_ok-add_word.ensures.patches;
}

pub returns-clause-changes : goal.returns-clause-changes
returns-clause-changes g c = λ old new limit e f before.
    words_all (word_changes g.row.NW g.row.PAGES c.args.reset.now.memory.ram c.args.timeline.now) c.args.words.now c.loop-change.change-index
    (changes_of g.row.NW g.row.PAGES c.loop-change.patches.items) _ c.loop-change-test.false c.loop-change.invariant.changes
    ∙ words_are_image g.row.NW g.row.PAGES c.args.timeline.now old new c.args.words.now c.args.reset.now limit e f before c.ram_size-size.ensures.contents
