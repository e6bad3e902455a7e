use Rattle.std.proofs.Common.{◌≡◌, ◌∙◌, ◌≤◌, ◌+◌, ◌-◌, true, length, refl, sym, ap, arith}
use Rattle.sv8_phys.specs.Memory.{ram_size}
use Rattle.sv8_cpu.specs.State.{State}
use Rattle.sv8_workbench.specs.Shown.{machine_state}
use Rattle.sv8_search.specs.Search.{are_inside, found_at, is_wanted, olds_of}
use Rattle.sv8_search.proofs.OldBytes.{olds_pass}
use Rattle.sv8_search.proofs.Passing.{found_passed, looked_passed}
use Rattle.sv8_search.proofs.Walked.{tried_stopped, untried_stopped, on_any_err}
use Rattle.sv8_search.proofs.Planning.{plan_stays}
use Rattle.sv8_search.proofs.Searching.{found_next, looked_next}
use Rattle.sv8_search.proofs.search.go_on.Goals as goal

pub returns-then-step-end-clause-found : goal.returns-then-step-end-clause-found
returns-then-step-end-clause-found g c =
    let kept = c.args.bench.now.kept in
    let at = c.step-step.ensures in
    let low : c.args.walk.now.step ≤ c.in_ok-end.end = omega (arith, c.in_ok-end.ensures.ordered, at) in
    found_passed (is_wanted kept c.args.conditions.now) c.args.walk.now.step c.in_ok-end.end c.args.to c.args.left low c.in_ok-end.ensures.end c.requires.some
    (λ n least below. c.in_ok-end.ensures.none n (omega (arith, least, at)) below) (found_at kept) c.args.found.now.items c.go_to.new.self.step c.in_ok-go_to.ensures.step

pub returns-then-step-end-clause-looked : goal.returns-then-step-end-clause-looked
returns-then-step-end-clause-looked g c =
    let kept = c.args.bench.now.kept in
    let at = c.step-step.ensures in
    let low : c.args.walk.now.step ≤ c.in_ok-end.end = omega (arith, c.in_ok-end.ensures.ordered, at) in
    looked_passed (is_wanted kept c.args.conditions.now) c.args.walk.now.step c.in_ok-end.end c.args.to c.args.left low c.in_ok-end.ensures.end c.requires.some
    (λ n least below. c.in_ok-end.ensures.none n (omega (arith, least, at)) below) c.go_to.new.self.step c.in_ok-go_to.ensures.step

pub returns-in_err-rest-clause-stopped : goal.returns-in_err-rest-clause-stopped
returns-in_err-rest-clause-stopped g c =
    on_any_err c.from_residual-in_err-rest.result (tried_stopped c.sizes.ensures.some_steps c.requires.below c.in_err-rest.ensures.unmade)

pub returns-clause-found : goal.returns-clause-found
returns-clause-found g c =
    let kept = c.args.bench.now.kept in
    let cs = c.args.conditions.now in
    let n = c.args.walk.now.step in
    let added = c.in_ok-rest.ensures.added in
    found_next kept cs n c.args.to c.args.left c.look.new.walk.step c.in_ok-rest.rest _ c.requires.below c.requires.some c.in_ok-rest.ensures.step refl added.room
    c.args.found.now.items c.look.new.found.items _ added.items refl

pub returns-clause-looked : goal.returns-clause-looked
returns-clause-looked g c =
    let kept = c.args.bench.now.kept in
    let added = c.in_ok-rest.ensures.added in
    looked_next kept c.args.conditions.now c.args.walk.now.step c.args.to c.args.left c.look.new.walk.step c.in_ok-rest.rest _ c.requires.below c.requires.some
    c.in_ok-rest.ensures.step refl added.room

pub returns-in_err-end-clause-stopped : goal.returns-in_err-end-clause-stopped
returns-in_err-end-clause-stopped g c =
    on_any_err c.from_residual.result (untried_stopped g.row.K c.args.walk.now.step c.args.to c.args.bench.now)

pub returns-then-step-end-clause-bytes : goal.returns-then-step-end-clause-bytes
returns-then-step-end-clause-bytes g c =
    let kept = c.args.bench.now.kept in
    let cs = c.args.conditions.now in
    let n = c.args.walk.now.step in
    let at = c.step-step.ensures in
    let pages : ram_size kept.pages ≡ ram_size g.row.PAGES = ap ram_size c.sizes.ensures.pages in
    let inside : are_inside (ram_size kept.pages) cs ≡ true = ap (λ size. are_inside size cs) pages ∙ c.requires.inside in
    let size : length (machine_state kept n).memory.ram ≡ ram_size kept.pages =
    ap (λ (x : State). length x.memory.ram) (sym (c.machine.ensures ∙ c.requires.walk.state)) ∙ c.ram_size-size.ensures.contents.size ∙ sym pages in
    let end : n + (c.in_ok-end.end - n) ≡ c.go_to.new.self.step = omega (arith, c.in_ok-end.ensures.ordered, at, c.in_ok-go_to.ensures.step) in
    c.requires.bytes
    ∙ olds_pass kept cs inside (c.in_ok-end.end - n) n size (λ i low high. c.in_ok-end.ensures.none i (omega (arith, low, at)) (omega (arith, high, low)))
    ∙ ap (λ i. olds_of cs (machine_state kept i).memory.ram) end

pub returns-then-step-end-clause-plan : goal.returns-then-step-end-clause-plan
returns-then-step-end-clause-plan g c =
    plan_stays g.row.K c.args.bench.now c.go_to.new.bench c.args.conditions.now c.passable.new.self.start c.passable.new.self.flags.items c.go_to.ensures.kept (omega (arith, c.go_to.ensures.recorded))
    c.in_ok-end.ensures.plan

pub returns-clause-plan : goal.returns-clause-plan
returns-clause-plan g c =
    let made = c.in_ok-rest.ensures.made in
    plan_stays g.row.K c.args.bench.now c.look.new.bench c.args.conditions.now c.passable.new.self.start c.passable.new.self.flags.items made.kept (omega (arith, made.recorded))
    c.in_ok-end.ensures.plan
