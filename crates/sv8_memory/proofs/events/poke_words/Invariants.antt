use Rattle.std.proofs.Common.{◌≡◌, length}
use Rattle.sv8_phys.specs.Memory.{ram_size}
use Rattle.sv8_memory.specs.WordPokes.{words_poked, AreInside}
use Rattle.sv8_memory.proofs.events.poke_words.Given as goal

abbrev pub invariant-loop-rest : goal.invariant-loop-rest
invariant-loop-rest g l =
    AreInside (ram_size g.row.PAGES) l.rest
    × (record l.phys { ram = words_poked l.rest l.phys.ram } ≡ record l.fn.phys { ram = words_poked l.fn.words l.fn.phys.ram })

abbrev pub decreases-loop-rest : goal.decreases-loop-rest
decreases-loop-rest g l = length l.rest
