use Rattle.std.proofs.Common.{◌≡◌, ◌+◌, ◌*◌, ◌++◌, take, flat_map, length}
use Rattle.std.specs.Prelude.{codes}
use Rattle.sv8_commands.specs.Text.{hex_word}
use Rattle.sv8_commands.proofs.texts.add_words.Given as goal

abbrev pub invariant-loop-word : goal.invariant-loop-word
invariant-loop-word l =
    (l.text ≡ l.initial.text ++ flat_map (λ w. codes " " ++ hex_word w) (take l.word-index l.words)) × (length l.text ≡ length l.initial.text + 9 * l.word-index)
