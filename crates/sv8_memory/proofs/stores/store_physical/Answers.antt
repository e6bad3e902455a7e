use Rattle.sv8_memory.proofs.Accesses.{stand_written}
use Rattle.sv8_memory.proofs.stores.store_physical.Goals as goal

pub returns-clause-serves : goal.returns-clause-serves
returns-clause-serves g c = stand_written _ _ _ _ _ c.store-stored.ensures.pointer (c.forget_page.ensures.stand _ _ _ _ c.store-stored.ensures.page c.requires.serves)
