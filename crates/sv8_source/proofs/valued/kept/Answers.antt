use Rattle.std.proofs.Common.{rules, ◌≡◌, ◌+◌, Some, true, refl}
use Rattle.std.specs.List.{slice_get}
use Rattle.sv8_asm.specs.Uses.{agree}
use Rattle.sv8_source.proofs.KeptBytes.{kept_bytes}
use Rattle.sv8_source.proofs.valued.kept.Goals as goal

pub returns : goal.returns
returns c =
    let place : slice_get c.args.old.now.layout.places c.args.index ≡ Some c.place_in-before.result.now = (search rules) in
    let code : slice_get c.args.old.now.code c.args.index ≡ Some c.handle_in.result.now.value.items = (search rules) in
    let agrees : agree c.args.place.now.stmt c.args.names.now c.args.number c.args.old.now.layout.symbols (c.args.index + 1) ≡ true = (search rules) in
    rw c.in_ok-bytes.ensures (kept_bytes c.args.old.now c.args.index c.args.number (c.args.index + 1) c.place_in-before.result.now c.args.place.now c.handle_in.result.now.value.items c.args.names.now c.requires.old place code refl
    (search rules) (search rules) (search rules) (search rules) agrees)
