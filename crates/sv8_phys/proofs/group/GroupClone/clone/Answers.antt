use Rattle.std.proofs.Common.{◌≡◌, ap}
use Rattle.sv8_phys.specs.Parts.{half_bytes}
use Rattle.sv8_phys.proofs.BlockLemmas.{in_half}
use Rattle.sv8_phys.proofs.Handles.{shared}
use Rattle.sv8_phys.proofs.group.GroupClone.clone.Goals as goal

pub returns : goal.returns
returns c = record { cases = shared in_half (λ g h. h.value ≡ g.value) (λ g h e. ap half_bytes e) c.args.self.now.halves _ c.in_ok-halves.ensures.cases.whole }
