use Rattle.std.proofs.Common.{◌≡◌, ◌++◌, drop}
use Rattle.std.specs.List.{All, flat_map}
use Rattle.sv8_cpu.specs.Patches.{changes_of, IsPatch}
use Rattle.sv8_edits.proofs.ImageWords.{word_changes}
use Rattle.sv8_edits.proofs.patches.image_patches.Given as goal

-- what was done so far, and then the rest
abbrev pub invariant-loop-change : goal.invariant-loop-change
invariant-loop-change g l = record {
  changes : changes_of g.row.NW g.row.PAGES l.patches.items ++ flat_map (word_changes g.row.NW g.row.PAGES l.reset.memory.ram l.timeline) (drop l.change-index l.words)
      ≡ flat_map (word_changes g.row.NW g.row.PAGES l.reset.memory.ram l.timeline) l.words;
  patches : All (IsPatch g.row.PAGES) l.patches.items;
}
