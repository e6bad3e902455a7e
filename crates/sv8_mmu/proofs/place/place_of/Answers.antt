use Rattle.std.proofs.Common.{◌≡◌, true, ◌∙◌, rules}
use Rattle.sv8_mmu.specs.Registers.{translates}
use Rattle.sv8_mmu.specs.Place.{only_ram}
use Rattle.sv8_mmu.proofs.Placing.{by_walk}
use Rattle.sv8_mmu.proofs.place.place_of.Goals as goal

pub returns-clause-value : goal.returns-clause-value
returns-clause-value g c =
    let on : translates c.args.registers.now ≡ true = search rules in
    let ram = (g.R.TableMemory.ram c.args.phys.now) in
    c.placed.ensures.value
    ∙ by_walk g.R.TableMemory.SIZE c.args.registers.now ram c.args.va c.walk_for-walk.result.end on (c.walk_for-walk.ensures.does (only_ram ram)).result
