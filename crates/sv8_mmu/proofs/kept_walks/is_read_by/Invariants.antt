use Rattle.sv8_mmu.specs.Kept.{NoneReadsPage}
use Rattle.sv8_mmu.proofs.kept_walks.is_read_by.Lts.Given.{Live-loop-walk}

abbrev pub invariant-loop-walk : Live-loop-walk → Type 0
invariant-loop-walk l = NoneReadsPage l.page l.walk-iterator → NoneReadsPage l.page l.walks.entries
