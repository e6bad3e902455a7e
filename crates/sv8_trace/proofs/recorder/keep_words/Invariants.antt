use Rattle.std.proofs.Common.{◌≡◌, ◌++◌, length}
use Rattle.sv8_phys.specs.Memory.{ram_size}
use Rattle.sv8_memory.specs.WordPokes.{AreInside}
use Rattle.sv8_trace.specs.Recorder.{below_words}
use Rattle.sv8_trace.proofs.recorder.keep_words.Given as goal

abbrev pub invariant-loop-rest : goal.invariant-loop-rest
invariant-loop-rest g l = AreInside (ram_size g.row.PAGES) l.rest × (l.kept ++ below_words l.offset l.machine l.rest ≡ l.fn.kept ++ below_words l.offset l.machine l.fn.words)

abbrev pub decreases-loop-rest : goal.decreases-loop-rest
decreases-loop-rest g l = length l.rest
