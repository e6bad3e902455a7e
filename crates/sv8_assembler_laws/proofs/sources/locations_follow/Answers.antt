use Rattle.sv8_assembler_laws.proofs.Located.{locations_follow}
use Rattle.sv8_assembler_laws.proofs.sources.locations_follow.Goals as goal

pub returns : goal.returns
returns c = locations_follow
