use Rattle.sv8_phys.proofs.GroupLemmas.{shared_groups}
use Rattle.sv8_phys.proofs.directory.DirectoryClone.clone.Goals as goal

pub returns : goal.returns
returns c = record { cases = shared_groups c.args.self.now.groups.items _ c.in_ok-groups.ensures.cases.0 }
