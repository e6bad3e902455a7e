use Rattle.std.proofs.Common.{◌≡◌, length}
use Rattle.sv8_commands.specs.Words.{words_of}
use Rattle.sv8_commands.proofs.words.next_word.Given as goal

abbrev pub invariant-loop-rest : goal.invariant-loop-rest
invariant-loop-rest l = words_of l.rest ≡ words_of l.text

abbrev pub decreases-loop-rest : goal.decreases-loop-rest
decreases-loop-rest l = length l.rest
