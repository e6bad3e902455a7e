use Rattle.std.proofs.Common.{◌≡◌, subst, inl, take, Contains, arith}
use Rattle.sv8_mmu.proofs.Keeping.{mark_next, mark_last, still_marked}
use Rattle.sv8_mmu.proofs.kept_walks.mark.Goals as goal

pub loop-place-init : goal.loop-place-init
loop-place-init c = record {
  marked = λ place m.
      let e : take c.args.trail.now.count c.args.trail.now.places ≡ take c.into_iter-place-iterator.result.n c.into_iter-place-iterator.result.iter.rest.now = cc in
      inl (subst (λ l. Contains l place) e m);
  kept = λ place m. m;
}

pub loop-place-preserved : goal.loop-place-preserved
loop-place-preserved c = record {
  marked = λ place m.
      mark_next c.loop-place.pages c.loop-place.place-iterator.iter.rest.now c.next.new.self.iter.rest.now _ c.next.new.self.n c.loop-place.place-iterator.n c.in-Some.ensures.steps (omega arith) place
      (c.loop-place.invariant.marked place m);
  kept = λ place m. still_marked c.loop-place.pages _ place (omega arith) (c.loop-place.invariant.kept place m);
}

pub returns-clause-marked : goal.returns-clause-marked
returns-clause-marked c = λ place m. mark_last c.loop-place.pages c.loop-place.place-iterator.iter.rest.now c.loop-place.place-iterator.n (λ l. (c.in-None.ensures.steps l).0) place (c.loop-place.invariant.marked place m)

pub returns-clause-kept : goal.returns-clause-kept
returns-clause-kept c = c.loop-place.invariant.kept
