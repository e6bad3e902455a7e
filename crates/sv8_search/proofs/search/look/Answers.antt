use Rattle.std.proofs.Common.{rules, sym, length, true, false, arith, ◌≡◌, ◌∙◌, ap, subst}
use Rattle.sv8_cpu.specs.State.{State}
use Rattle.sv8_watch.specs.Watched.{IsBefore}
use Rattle.sv8_workbench.specs.Kept.{Kept}
use Rattle.sv8_workbench.specs.Shown.{machine_state}
use Rattle.sv8_phys.specs.Memory.{ram_size}
use Rattle.sv8_search.specs.Search.{are_inside, found_at, is_wanted, olds_of}
use Rattle.sv8_search.proofs.OldBytes.{olds_pass}
use Rattle.sv8_search.proofs.Searching.{looked_added, walked_state, step_from, not_added, unwanted}
use Rattle.sv8_search.proofs.search.look.Goals as goal

pub returns-then-not-may_be_wanted-clause-added : goal.returns-then-not-may_be_wanted-clause-added
returns-then-not-may_be_wanted-clause-added g c =
    let s = machine_state c.args.bench.now.kept c.args.walk.now.step in
    let before : IsBefore s c.of-before.result = subst (λ (x : State). IsBefore x c.of-before.result) (c.machine.ensures ∙ c.requires.walk.state) c.of-before.ensures in
    let made = c.in_ok-go_on.ensures in
    let kept = c.args.bench.now.kept in
    let n = c.args.walk.now.step in
    let sizes = c.sizes.ensures in
    let timeline = c.timeline.ensures ∙ ap (λ (k : Kept). k.timeline) made.made.kept in
    let there = c.machine-after.ensures ∙ walked_state made.made made.walk made.step in
    let made_from = step_from kept n _ _ _ _ _ _ _ before there made.touches made.observations c.step-n.ensures timeline sizes.windows sizes.pages in
    let missed : c.may_be_wanted.result ≡ false = search rules in
    not_added kept n c.step-n.result g.row.NW g.row.PAGES c.timeline.result.now c.args.conditions.now c.args.left c.args.found.now.items c.step-n.ensures timeline
    sizes.windows sizes.pages (c.may_be_wanted.ensures.wanted s made_from (c.as_slice-bytes.ensures.value ∙ c.requires.bytes) missed)

pub returns-then-not-may_be_wanted-clause-bytes : goal.returns-then-not-may_be_wanted-clause-bytes
returns-then-not-may_be_wanted-clause-bytes g c =
    let s = machine_state c.args.bench.now.kept c.args.walk.now.step in
    let before : IsBefore s c.of-before.result = subst (λ (x : State). IsBefore x c.of-before.result) (c.machine.ensures ∙ c.requires.walk.state) c.of-before.ensures in
    let made = c.in_ok-go_on.ensures in
    let kept = c.args.bench.now.kept in
    let n = c.args.walk.now.step in
    let sizes = c.sizes.ensures in
    let timeline = c.timeline.ensures ∙ ap (λ (k : Kept). k.timeline) made.made.kept in
    let there = c.machine-after.ensures ∙ walked_state made.made made.walk made.step in
    let made_from = step_from kept n _ _ _ _ _ _ _ before there made.touches made.observations c.step-n.ensures timeline sizes.windows sizes.pages in
    let missed : c.may_be_wanted.result ≡ false = search rules in
    let size = ap (λ (x : State). length x.memory.ram) (sym (c.machine-2.ensures ∙ c.requires.walk.state)) ∙ c.ram_size-size.ensures.contents.size in
    c.requires.bytes ∙ c.may_be_wanted.ensures.bytes s made_from (c.as_slice-bytes.ensures.value ∙ c.requires.bytes) size missed
    ∙ ap (λ (x : State). olds_of c.args.conditions.now x.memory.ram) there

pub returns-clause-added : goal.returns-clause-added
returns-clause-added g c =
    let s = machine_state c.args.bench.now.kept c.args.walk.now.step in
    let before : IsBefore s c.of-before.result = subst (λ (x : State). IsBefore x c.of-before.result) (c.machine.ensures ∙ c.requires.walk.state) c.of-before.ensures in
    let made = c.in_ok-go_on.ensures in
    looked_added _ _ c.args.conditions.now c.step-n.ensures (c.timeline-2.ensures ∙ ap (λ (k : Kept). k.timeline) made.made.kept) (c.machine-3.ensures ∙ walked_state made.made made.walk made.step)
    made.observations made.touches (c.in_ok-rest.ensures s before (c.as_slice-bytes.ensures.value ∙ c.requires.bytes))

pub returns-then-rest-left-clause-added : goal.returns-then-rest-left-clause-added
returns-then-rest-left-clause-added g c =
    let s = machine_state c.args.bench.now.kept c.args.walk.now.step in
    let before : IsBefore s c.of-before.result = subst (λ (x : State). IsBefore x c.of-before.result) (c.machine.ensures ∙ c.requires.walk.state) c.of-before.ensures in
    let made = c.in_ok-go_on.ensures in
    looked_added _ _ c.args.conditions.now c.step-n.ensures (c.timeline-2.ensures ∙ ap (λ (k : Kept). k.timeline) made.made.kept) (c.machine-3.ensures ∙ walked_state made.made made.walk made.step)
    made.observations made.touches (c.in_ok-rest.ensures s before (c.as_slice-bytes.ensures.value ∙ c.requires.bytes))

pub returns-then-rest-left-clause-bytes : goal.returns-then-rest-left-clause-bytes
returns-then-rest-left-clause-bytes g c =
    let kept = c.args.bench.now.kept in
    let cs = c.args.conditions.now in
    let n = c.args.walk.now.step in
    let sizes = c.sizes.ensures in
    let added = returns-then-rest-left-clause-added g c in
    let missed = unwanted (is_wanted kept cs n) (found_at kept n) c.args.left c.in_ok-rest.rest _ _ added (search rules) c.requires.some in
    let inside = subst (λ p. are_inside (ram_size p) cs ≡ true) (sym sizes.pages) c.requires.inside in
    let size = ap (λ (x : State). length x.memory.ram) (sym (c.machine-2.ensures ∙ c.requires.walk.state)) ∙ c.ram_size-size.ensures.contents.size ∙ ap ram_size (sym sizes.pages) in
    c.requires.bytes
    ∙ olds_pass kept cs inside 1 n size (λ i low high. let here : i ≡ n = omega (arith, low, high) in ap (is_wanted kept cs) here ∙ missed)
