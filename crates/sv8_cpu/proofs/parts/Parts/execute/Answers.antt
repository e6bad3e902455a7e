use Rattle.std.proofs.Common.{refl, sym, rules}
use Rattle.sv8_cpu.proofs.Steps.{trap_taken}
use Rattle.sv8_cpu.proofs.parts.Parts.execute.Goals as goal

pub returns-in_ok-show_trap-in-Some : goal.returns-in_ok-show_trap-in-Some
returns-in_ok-show_trap-in-Some g c = record {
  ok = trap_taken _ _ _ _ _ _ _ _ _ _ _ (sym c.in-Some.ensures) (search rules) (rw c.take_trap.ensures refl);
  fed = c.requires.fed;
}
