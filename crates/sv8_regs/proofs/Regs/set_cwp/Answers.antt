use Rattle.std.proofs.Common.{ap, ◌∙◌, arith}
use Rattle.sv8_regs.specs.Ring.{Registers}
use Rattle.sv8_regs.proofs.Moves.{same_front}
use Rattle.sv8_regs.proofs.Regs.set_cwp.Goals as goal

pub returns : goal.returns
returns g c =
    let own = c.self.inside in
    let moved = c.change_window.ensures in
    let globals = same_front 8 c.change_window.new.current own.current (omega arith) (omega arith) moved.globals in
    (λ i. record { globals = globals i; ring = moved.ring i; cwp = c.args.window; psr = own.psr; wim = own.wim; tbr = own.tbr; y = own.y })
    ∙ ap (λ (s : Registers). record s { cwp = c.args.window }) c.self.view_is
