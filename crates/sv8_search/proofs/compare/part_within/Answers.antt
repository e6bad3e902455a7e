use Rattle.std.proofs.Common.{◌≤◌, MatchBool, sym, arith, subst}
use Rattle.sv8_search.specs.Comparing.{AreAlike}
use Rattle.sv8_search.proofs.Searching.{searched_further, searched_stopped, searched_abandoned, searched_at, searched_from}
use Rattle.sv8_search.proofs.Parting.{alike_kept, unlike_kept, alike_further, below_more}
use Rattle.sv8_search.proofs.compare.part_within.Goals as goal

pub returns-in_err-other-clause-given_up : goal.returns-in_err-other-clause-given_up
returns-in_err-other-clause-given_up g c =
    let pos = c.sizes.ensures.some_steps in
    (searched_from pos c.requires.ordered c.begin.ensures.given_up, searched_from pos c.requires.ordered c.begin-2.ensures.given_up)

pub returns-then-not-are_alike-clause-given_up : goal.returns-then-not-are_alike-clause-given_up
returns-then-not-are_alike-clause-given_up g c =
    let pos = c.sizes.ensures.some_steps in
    (searched_from pos c.requires.ordered c.begin.ensures.given_up, searched_from pos c.requires.ordered c.begin-2.ensures.given_up)

pub returns-in_err-alike-clause-given_up : goal.returns-in_err-alike-clause-given_up
returns-in_err-alike-clause-given_up g c =
    let pos = c.sizes.ensures.some_steps in
    let inv = c.loop-now.invariant in
    let stopped = c.in_err-alike.ensures.stopped in (
      searched_stopped pos c.args.from inv.low inv.high inv.searched.0 stopped.0,
      searched_stopped pos c.args.from inv.low inv.high inv.searched.1 stopped.1,
    )

pub loop-now-preserved : goal.loop-now-preserved
loop-now-preserved g c =
    let pos = c.sizes.ensures.some_steps in
    let from = c.args.from in
    let n = c.loop-now.both.walk.step in
    let next = c.go_on.new.both.walk.step in
    let now = c.args.now.now in
    let before = c.args.before.now in
    let inv = c.loop-now.invariant in
    let told = c.in_ok-alike.ensures in
    let up : n ≤ next = omega (arith, told.further) in
    let here = subst
    (λ x. MatchBool x (AreAlike c.loop-now.before.kept c.loop-now.now.kept next) (AreAlike c.loop-now.before.kept c.loop-now.now.kept next → ⊥)) c.if-not-alike.false told.alike in
    record {
      walks = told.walks;
      low = omega (arith, inv.low, up);
      high = told.ended;
      searched = (searched_further pos from inv.low up inv.searched.0 told.walked.0, searched_further pos from inv.low up inv.searched.1 told.walked.1);
      alike = below_more (AreAlike before.kept now.kept) from next
          (alike_further now.kept before.kept c.loop-now.now.kept c.loop-now.before.kept inv.searched.0.kept inv.searched.1.kept from n next inv.alike told.front)
          (alike_kept now.kept before.kept c.loop-now.now.kept c.loop-now.before.kept inv.searched.0.kept inv.searched.1.kept next here);
    }

pub returns-then-not-alike-clause-parted : goal.returns-then-not-alike-clause-parted
returns-then-not-alike-clause-parted g c =
    let n = c.loop-now.both.walk.step in
    let next = c.go_on.new.both.walk.step in
    let now = c.args.now.now in
    let before = c.args.before.now in
    let inv = c.loop-now.invariant in
    let told = c.in_ok-alike.ensures in
    let is = c.step-then-not-alike.ensures in
    let here = subst
    (λ x. MatchBool x (AreAlike c.loop-now.before.kept c.loop-now.now.kept next) (AreAlike c.loop-now.before.kept c.loop-now.now.kept next → ⊥)) c.if-not-alike.true told.alike in (
      omega (arith, inv.low, told.further, is),
      omega (arith, told.ended, is),
      λ m low below. alike_further now.kept before.kept c.loop-now.now.kept c.loop-now.before.kept inv.searched.0.kept inv.searched.1.kept c.args.from n next inv.alike told.front m low
          (omega (arith, below, is)),
      subst (λ x. AreAlike before.kept now.kept x → ⊥) (sym is)
          (unlike_kept now.kept before.kept c.loop-now.now.kept c.loop-now.before.kept inv.searched.0.kept inv.searched.1.kept next here),
    )

pub returns-then-not-alike-clause-looked : goal.returns-then-not-alike-clause-looked
returns-then-not-alike-clause-looked g c =
    let pos = c.sizes.ensures.some_steps in
    let from = c.args.from in
    let inv = c.loop-now.invariant in
    let told = c.in_ok-alike.ensures in
    let up : c.loop-now.both.walk.step ≤ c.go_on.new.both.walk.step = omega (arith, told.further) in
    let is = sym c.step-then-not-alike.ensures in (
      searched_at g.row.K from _ _ _ _ is (searched_further pos from inv.low up inv.searched.0 told.walked.0),
      searched_at g.row.K from _ _ _ _ is (searched_further pos from inv.low up inv.searched.1 told.walked.1),
    )

pub returns-then-not-alike-clause-given_up : goal.returns-then-not-alike-clause-given_up
returns-then-not-alike-clause-given_up g c =
    let pos = c.sizes.ensures.some_steps in
    let from = c.args.from in
    let inv = c.loop-now.invariant in
    let told = c.in_ok-alike.ensures in
    let up : c.loop-now.both.walk.step ≤ c.go_on.new.both.walk.step = omega (arith, told.further) in
    let low : from ≤ c.go_on.new.both.walk.step = omega (arith, inv.low, up) in (
      searched_abandoned pos from low told.ended (searched_further pos from inv.low up inv.searched.0 told.walked.0),
      searched_abandoned pos from low told.ended (searched_further pos from inv.low up inv.searched.1 told.walked.1),
    )
