use Rattle.std.proofs.Common.{refl, arith}
use Rattle.sv8_regs.specs.Ring.{flat}
use Rattle.sv8_regs.proofs.Current.{current_written}
use Rattle.sv8_regs.proofs.Regs.set.Goals as goal

pub returns-then-r-ne0 : goal.returns-then-r-ne0
returns-then-r-ne0 g c =
    let own = c.self.inside in
    let known = c.self.invariant in
    current_written g.row.NW _ _ own.current (flat g.row.NW own.rows) c.self.view_is refl refl known.1 known.0 c.args.r c.args.value (omega arith) c.requires known.5
