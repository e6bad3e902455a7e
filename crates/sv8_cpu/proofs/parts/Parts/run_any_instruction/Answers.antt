use Rattle.std.proofs.Common.{refl}
use Rattle.sv8_cpu.proofs.Steps.{instruction_by}
use Rattle.sv8_cpu.proofs.parts.Parts.run_any_instruction.Goals as goal

pub returns : goal.returns
returns g c = record {
  ok = instruction_by _ _ _ _ _ _ _ _ _ _ _ _ _ (rw (c.psr.ensures, c.registers.ensures, c.pc.ensures.value) refl) c.in_ok-response.ensures.ok c.in_ok-carry_out.ensures.ok;
  fed = c.in_ok-carry_out.ensures.fed;
}
