use Rattle.std.proofs.Common.{◌≡◌, length}
use Rattle.sv8_time.specs.Words.{bytes_of_words}
use Rattle.sv8_cpu.specs.Touching.{pokes_any}
use Rattle.sv8_search.proofs.touching.words_poke.Given as goal

abbrev pub invariant-loop-rest : goal.invariant-loop-rest
invariant-loop-rest l = pokes_any l.address l.count (bytes_of_words l.rest) ≡ pokes_any l.address l.count (bytes_of_words l.words)

abbrev pub decreases-loop-rest : goal.decreases-loop-rest
decreases-loop-rest l = length l.rest
