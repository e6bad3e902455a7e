use Rattle.std.proofs.Common.{refl}
use Rattle.sv8_cpu.proofs.Steps.{instruction_by}
use Rattle.sv8_cpu.proofs.parts.Parts.run_instruction.Goals as goal

pub returns-in_ok-carry_out_fetched-in-Some : goal.returns-in_ok-carry_out_fetched-in-Some
returns-in_ok-carry_out_fetched-in-Some g c =
    let found = c.in_ok-value.ensures.found in
    let fetched = rw c.in-Some.is at found in
    let done = c.in_ok-carry_out_fetched-in-Some.ensures.ok in
    let carried = rw c.low_word.ensures at done in
    record {
      ok = instruction_by _ _ _ _ _ _ _ _ _ _ _ _ _ (rw (c.psr-supervisor.ensures, c.registers.ensures, c.pc-at.ensures.value) refl) (fetched _) carried;
      fed = c.in_ok-carry_out_fetched-in-Some.ensures.fed;
    }
