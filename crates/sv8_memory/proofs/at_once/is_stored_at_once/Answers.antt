use Rattle.sv8_memory.specs.View.{timed_units}
use Rattle.sv8_phys.specs.Contents.{outside_of}
use Rattle.sv8_memory.proofs.Known.{stores}
use Rattle.sv8_memory.proofs.at_once.is_stored_at_once.Goals as goal

pub returns-in-Some : goal.returns-in-Some
returns-in-Some g c = λ yes value timer bytes.
    let place = c.in-Some.ensures in
    let does = rw (c.store_type.ensures, c.reach_of.ensures) at place.does in
    stores _ (timed_units c.args.physical.now timer) (outside_of c.args.physical.now.phys bytes) c.args.at _ place.ram c.args.size c.args.asi c.requires.space value (does bytes)
