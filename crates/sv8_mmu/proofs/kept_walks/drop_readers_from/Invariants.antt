use Rattle.sv8_mmu.specs.Kept.{AreAmong}
use Rattle.sv8_mmu.proofs.kept_walks.drop_readers_from.Lts.Given.{Live-loop}

abbrev pub invariant-loop : Live-loop → Type 0
invariant-loop l = AreAmong l.walks.entries l.fn.walks.entries
