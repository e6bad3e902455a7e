use Rattle.std.proofs.Common.{◌≤◌, subst}
use Rattle.sv8_memory.specs.View.{timed_units}
use Rattle.sv8_phys.specs.Contents.{outside_of}
use Rattle.sv8_memory.proofs.Known.{loads}
use Rattle.sv8_memory.proofs.at_once.loaded_at_once.Goals as goal

pub returns-in_ok-value-in-Some : goal.returns-in_ok-value-in-Some
returns-in_ok-value-in-Some g c = λ timer bytes.
    let place = c.in-Some.ensures in
    let does = rw (c.load_type.ensures, c.reach_of.ensures) at place.does in
    loads _ (timed_units c.args.physical.now timer) (outside_of c.args.physical.now.phys bytes) c.args.at c.in-Some.pa place.ram c.args.size c.args.asi c.requires.space c.in_ok-value-in-Some.value
    (subst (λ n. n ≤ 0x1000_0000) c.ram_size-size.ensures.value c.ram_size-size.ensures.most) (does bytes) (c.in_ok-value-in-Some.ensures.ok bytes)
