use Rattle.sv8_memory.specs.View.{timed_units}
use Rattle.sv8_phys.specs.Contents.{outside_of}
use Rattle.sv8_memory.proofs.Known.{fetches}
use Rattle.sv8_memory.proofs.at_once.fetched_at_once.Goals as goal

pub returns-in_ok-word-in-Some : goal.returns-in_ok-word-in-Some
returns-in_ok-word-in-Some g c = λ timer bytes.
    let place = c.in-Some.ensures in
    let does = rw (c.load_type.ensures, c.instruction_space.ensures) at place.does in
    fetches _ (timed_units c.args.physical.now timer) (outside_of c.args.physical.now.phys bytes) c.args.at c.in-Some.pa place.ram c.args.supervisor c.in_ok-word-in-Some.word (does bytes)
    (c.in_ok-word-in-Some.ensures.ok bytes)
