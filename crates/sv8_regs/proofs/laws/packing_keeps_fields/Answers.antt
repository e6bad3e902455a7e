use Rattle.std.proofs.Common.{◌<◌, subst}
use Rattle.sv8_regs.proofs.Packing.{fields_back}
use Rattle.sv8_regs.proofs.laws.packing_keeps_fields.Goals as goal

pub returns-clause-fields : goal.returns-clause-fields
returns-clause-fields c =
    let level = c.number-level.ensures in
    fields_back c.args.psr c.args.window (subst (λ n. n < 16) level.value level.most) c.requires
