use Rattle.std.proofs.Common.{refl, rules}
use Rattle.sv8_cpu.proofs.Steps.{access_answered}
use Rattle.sv8_cpu.proofs.parts.Parts.make_access.Goals as goal

pub returns : goal.returns
returns g c = record {
  ok = access_answered _ _ _ _ _ _ _ _ _ _ _ _ _ c.asked-request.ensures.value c.in_ok-response.ensures.ok (search rules) (rw c.answer.ensures refl);
  fed = c.in_ok-response.ensures.fed;
}
