use Rattle.std.proofs.Common.{refl, sym, ◌∙◌, rules}
use Rattle.sv8_cpu.proofs.Steps.{transferred}
use Rattle.sv8_cpu.proofs.parts.Parts.complete_transfer.Goals as goal

pub returns-in_ok-show_refusal-in-Some-2 : goal.returns-in_ok-show_refusal-in-Some-2
returns-in_ok-show_refusal-in-Some-2 g c = λ rs1 operand is place.
    let told = c.in_ok-make_access-in-None.ensures.ok in
    let made = rw c.in-Some-2.is at told in
    record {
      ok = transferred _ _ _ _ _ _ _ _ _ _ _ _ _ _ _ _ _ is place (sym c.memory_trap.ensures ∙ c.in-None.is) made (search rules) (rw (c.finish.ensures rs1 operand) refl);
      fed = c.in_ok-make_access-in-None.ensures.fed;
    }
