use Rattle.std.proofs.Common.{◌≡◌, take, drop}
use Rattle.sv8_commands.specs.Words.{words_of, words_from}
use Rattle.sv8_commands.proofs.words.first_word.Given as goal

abbrev pub invariant-loop-end : goal.invariant-loop-end
invariant-loop-end l = words_from (take l.end l.text) (drop l.end l.text) ≡ words_of l.text
