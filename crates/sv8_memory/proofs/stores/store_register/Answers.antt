use Rattle.sv8_memory.proofs.stores.store_register.Goals as goal

pub returns-then-write_register-clause-serves : goal.returns-then-write_register-clause-serves
returns-then-write_register-clause-serves g c = c.write_register.ensures.stand _ _ c.requires.serves

pub returns-else-write_register-clause-serves : goal.returns-else-write_register-clause-serves
returns-else-write_register-clause-serves g c = c.write_register.ensures.stand _ _ c.requires.serves
