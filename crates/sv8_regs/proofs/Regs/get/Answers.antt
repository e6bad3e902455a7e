use Rattle.std.proofs.Common.{refl}
use Rattle.sv8_regs.specs.Ring.{flat}
use Rattle.sv8_regs.proofs.Current.{current_read}
use Rattle.sv8_regs.proofs.Regs.get.Goals as goal

pub returns : goal.returns
returns g c =
    let own = c.self.inside in
    let known = c.self.invariant in
    current_read g.row.NW _ _ own.current (flat g.row.NW own.rows) c.self.view_is refl refl known.1 known.0 c.args.r known.6 c.requires
