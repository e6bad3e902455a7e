use Rattle.sv8_evidence.proofs.SignLemmas.{flags_shown}
use Rattle.sv8_evidence.proofs.showing.flag_shown.Goals as goal

pub returns : goal.returns
returns g c =
    let a = c.args in
    flags_shown a.sign g.row.K a.from a.trace.now c.signs-signs.result.now c.signs-signs.ensures a.flags.now c.flag_signs.new.flags c.requires.interval c.flag_signs.ensures
