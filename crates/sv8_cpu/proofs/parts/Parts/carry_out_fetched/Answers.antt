use Rattle.std.proofs.Common.{refl}
use Rattle.sv8_cpu.proofs.Steps.{carried_out_unaided}
use Rattle.sv8_cpu.proofs.parts.Parts.carry_out_fetched.Goals as goal

pub returns-in_ok-carry_out_unaided-in_default : goal.returns-in_ok-carry_out_unaided-in_default
returns-in_ok-carry_out_unaided-in_default g c =
    let done = c.in_ok-carry_out_unaided-in_default.ensures in
    record { ok = carried_out_unaided _ _ _ _ _ _ _ _ _ _ done.made done.noted refl; fed = c.requires.fed }
