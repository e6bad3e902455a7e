use Rattle.sv8_search.specs.Touching.{NonePokes}
use Rattle.sv8_search.proofs.touching.pokes_between.Given as goal

abbrev pub invariant-loop-n : goal.invariant-loop-n
invariant-loop-n l = NonePokes l.timeline l.address l.count l.from l.n
