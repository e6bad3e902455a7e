use Rattle.std.proofs.Common.{sym, subst, inl, inr, Contains}
use Rattle.sv8_mmu.specs.Kept.{Stands}
use Rattle.sv8_mmu.proofs.translation.find_walk.Goals as goal

pub returns-in-Some-clause-walk : goal.returns-in-Some-clause-walk
returns-in-Some-clause-walk g c = c.requires.stand _ c.in-Some.ensures.found

pub returns-in-Some-clause-stand : goal.returns-in-Some-clause-stand
returns-in-Some-clause-stand g c = λ k m. c.requires.stand k (c.find.ensures.among k (subst (λ b. Contains b k) c.know.ensures m))

pub returns-in-Page-clause-stand : goal.returns-in-Page-clause-stand
returns-in-Page-clause-stand g c = λ k m. elim (c.keep.ensures k m) [
  | inl was ↦ c.requires.stand k (c.find.ensures.among k was)
  | inr p ↦ subst (Stands g.R.TableMemory.SIZE (g.R.TableMemory.ram c.args.phys.now) c.args.table_pointer) (sym p) c.walk_for-walk.ensures
]

pub returns-in_default-end-clause-stand : goal.returns-in_default-end-clause-stand
returns-in_default-end-clause-stand g c = λ k m. c.requires.stand k (c.find.ensures.among k m)
