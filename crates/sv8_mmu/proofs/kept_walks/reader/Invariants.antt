use Rattle.sv8_mmu.specs.Kept.{NoneReads}
use Rattle.sv8_mmu.proofs.kept_walks.reader.Lts.Given.{Live-loop-key}

abbrev pub invariant-loop-key : Live-loop-key → Type 0
invariant-loop-key l = NoneReads l.at l.key-iterator → NoneReads l.at l.walks.entries
