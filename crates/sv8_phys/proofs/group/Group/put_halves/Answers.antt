use Rattle.std.proofs.Common.{◌+◌, set, ap, ◌∙◌}
use Rattle.std.proofs.lemmas.List.{map-set}
use Rattle.sv8_phys.proofs.BlockLemmas.{in_half}
use Rattle.sv8_phys.proofs.group.Group.put_halves.Goals as goal

pub returns : goal.returns
returns c =
    let halves = c.args.self.now.halves in
    let next = c.args.place + 1 in
    map-set in_half (set halves c.args.place c.args.low) next c.args.high
    ∙ ap (λ hs. set hs next (in_half c.args.high)) (map-set in_half halves c.args.place c.args.low)
