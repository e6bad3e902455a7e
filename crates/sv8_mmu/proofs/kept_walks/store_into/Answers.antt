use Rattle.sv8_mmu.proofs.Keeping.{stored}
use Rattle.sv8_mmu.proofs.kept_walks.store_into.Goals as goal

pub returns : goal.returns
returns c = stored c.args.walks.now c.put.new.self c.args.key c.args.walk c.put.result c.put.ensures.entries c.put.ensures.err
