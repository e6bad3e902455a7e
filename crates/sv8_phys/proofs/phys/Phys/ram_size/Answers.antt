use Rattle.std.proofs.Common.{subst}
use Rattle.sv8_phys.specs.Contents.{AreContents}
use Rattle.sv8_phys.proofs.phys.Phys.ram_size.Goals as goal

pub returns-clause-contents : goal.returns-clause-contents
returns-clause-contents g c =
    subst (AreContents g.row.PAGES) c.self.view_is (record { size = c.len.ensures.whole; bytes = c.len.ensures.bytes; levels = c.self.invariant.1 })
