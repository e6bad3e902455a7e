use Rattle.std.proofs.Common.{sym, subst}
use Rattle.sv8_mmu.specs.Kept.{AllStand}
use Rattle.sv8_mmu.proofs.registers.Mmu.write_register.Goals as goal

pub returns-clause-stand : goal.returns-clause-stand
returns-clause-stand c = λ limit ram stand.
    subst (λ p. AllStand limit ram p c.args.buffer.now) (sym (c.write-2.ensures.pointer c.if-at-eq-TABLE_POINTER.false)) stand
