use Rattle.sv8_memory.proofs.Accesses.{stand_on, stand_written}
use Rattle.sv8_memory.proofs.stores.exchange_physical.Goals as goal

pub returns-in_err-response-clause-serves : goal.returns-in_err-response-clause-serves
returns-in_err-response-clause-serves g c = stand_on _ _ _ _ _ _ c.in_err-response.ensures.kept c.exchange.ensures.pointer c.requires.serves

pub returns-clause-serves : goal.returns-clause-serves
returns-clause-serves g c = stand_written _ _ _ _ _ c.exchange.ensures.pointer (c.forget_page.ensures.stand _ _ _ _ c.exchange.ensures.page c.requires.serves)
