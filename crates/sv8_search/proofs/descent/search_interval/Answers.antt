use Rattle.std.proofs.Common.{◌≡◌, ◌∙◌, ◌+◌, ◌-◌, ◌++◌, [], List, inl, inr, length, map, refl, ap, arith}
use Rattle.sv8_search.specs.declared.found.Found.{Found}
use Rattle.sv8_search.specs.Search.{found_at, is_wanted, rising, looked_to}
use Rattle.sv8_search.proofs.Falling.{looked_all}
use Rattle.sv8_search.proofs.Passed.{none_rising, passed_found}
use Rattle.sv8_search.proofs.Searching.{searched_at}
use Rattle.sv8_search.proofs.Turned.{turned_found}
use Rattle.sv8_search.proofs.descent.search_interval.Goals as goal

pub returns-clause-found : goal.returns-clause-found
returns-clause-found g c =
    let kept = c.args.bench.now.kept in
    let size = c.args.end - c.args.start in
    let steps = rising (is_wanted kept c.args.conditions.now) c.args.start size size in
    let seen : c.as_slice.result.now ≡ [] ++ map (found_at kept) steps =
    c.as_slice.ensures.value ∙ c.in_ok-search_up.ensures.found ∙ ap (λ (xs : List Found). xs ++ map (found_at kept) steps) c.clear.ensures.items in
    c.in_ok-left.ensures.found ∙ ap (λ (xs : List Found). c.args.found.now.items ++ xs) (turned_found (found_at kept) steps c.as_slice.result.now c.args.most seen)

pub returns-clause-sought : goal.returns-clause-sought
returns-clause-sought g c =
    let size = c.args.end - c.args.start in
    let all : c.args.start + size ≡ c.args.end = omega (arith, c.requires.ordered) in
    let wanted = is_wanted c.args.bench.now.kept c.args.conditions.now in
    let looked = looked_all wanted c.args.start size size (omega arith) ∙ all in
    inr (searched_at g.row.K c.args.start (looked_to wanted c.args.start size size) c.args.end c.args.bench.now c.search_up.new.bench looked c.in_ok-search_up.ensures.searched)

pub returns-then-show_none-clause-found : goal.returns-then-show_none-clause-found
returns-then-show_none-clause-found g c =
    let kept = c.args.bench.now.kept in
    let none = none_rising (is_wanted kept c.args.conditions.now) c.args.start c.args.end (c.show_none.ensures.none c.if-show_none.true) in
    passed_found (found_at kept) c.args.found.now.items _ c.args.most none

pub returns-then-show_none-clause-left : goal.returns-then-show_none-clause-left
returns-then-show_none-clause-left g c =
    let kept = c.args.bench.now.kept in
    let none = none_rising (is_wanted kept c.args.conditions.now) c.args.start c.args.end (c.show_none.ensures.none c.if-show_none.true) in
    let few = ap length none in
    omega (arith, few)

pub returns-then-show_none-clause-sought : goal.returns-then-show_none-clause-sought
returns-then-show_none-clause-sought g c = inl (refl, c.show_none.ensures.recorded c.if-show_none.true)
