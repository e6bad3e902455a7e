use Rattle.std.proofs.Common.{ap}
use Rattle.sv8_model.proofs.Common.{does_if_true}
use Rattle.sv8_cpu.specs.Step.{action}
use Rattle.sv8_cpu.proofs.Steps.{awake_by}
use Rattle.sv8_cpu.proofs.parts.Parts.act.Goals as goal

pub returns : goal.returns
unfolding action
returns g c = record {
  ok = does_if_true _ c.args.self.now.processor.running _ _ _ _ _ _ _ (search)
      (awake_by _ _ _ _ _ _ _ _ _ _ _ _ _
      (ap (λ u. record { processor = c.args.self.now.processor; units = record { mmu = u; timer = c.tick.new.self.phys.timer } }) c.tick.ensures.mmu)
      (c.in_ok-tick.ensures.ok _) c.in_ok-go_on_or_interrupt.ensures.ok);
  fed = c.in_ok-go_on_or_interrupt.ensures.fed;
}
