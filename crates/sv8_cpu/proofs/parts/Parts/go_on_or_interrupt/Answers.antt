use Rattle.sv8_cpu.proofs.Steps.{interruptible_by}
use Rattle.sv8_cpu.proofs.parts.Parts.go_on_or_interrupt.Goals as goal

pub returns-in_ok-serve : goal.returns-in_ok-serve
returns-in_ok-serve g c = record {
  ok = interruptible_by _ _ _ _ _ _ _ _ _ _ _ _ _ (rw (← c.registers.ensures, ← c.psr.ensures) c.if-psr.true) c.unmasked_levels-levels.ensures (c.in_ok-pending.ensures _) c.in_ok-serve.ensures.ok;
  fed = c.in_ok-serve.ensures.fed;
}
