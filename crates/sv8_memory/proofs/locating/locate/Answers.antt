use Rattle.std.proofs.Common.{ap}
use Rattle.sv8_phys.specs.Contents.{outside_of}
use Rattle.sv8_memory.proofs.Accesses.{made_at, refused_at, stand_on}
use Rattle.sv8_memory.proofs.locating.locate.Goals as goal

pub returns-in-At-clause-ok : goal.returns-in-At-clause-ok
returns-in-At-clause-ok g c = λ bytes use_address o s ts made.
    made_at _ _ _ _ _ _ _ _ use_address _ _ _ _ _ _ _ _ _ (ap (λ m. record { mmu = c.args.physical.now.mmu; timer = m.timer }) c.resolve.ensures.others) (c.in_ok-pa.ensures.ok bytes) _ c.in-At.is made

pub returns-in-Refused-clause-ok : goal.returns-in-Refused-clause-ok
returns-in-Refused-clause-ok g c = λ bytes use_address o s ts made.
    refused_at _ _ _ _ _ _ _ _ use_address _ _ _ _ _ _ _ _ _ (ap (λ m. record { mmu = c.args.physical.now.mmu; timer = m.timer }) c.resolve.ensures.others) (c.in_ok-pa.ensures.ok bytes)
    c.in-Refused.kind c.in-Refused.level _ _ c.in-Refused.is (ap (λ m. outside_of m bytes) c.refuse-response.ensures.memory) c.refuse-response.ensures.served made

pub returns-in-Refused-clause-serves : goal.returns-in-Refused-clause-serves
returns-in-Refused-clause-serves g c = stand_on _ _ _ _ _ _ (ap (λ m. m.ram) c.refuse-response.ensures.memory) c.refuse-response.ensures.pointer c.resolve.ensures.stand
