use Rattle.std.proofs.Common.{◌≡◌, ◌∙◌, ◌+◌, ◌-◌, ◌++◌, ◌∷◌, [], sym, ap, append-nil, arith}
use Rattle.sv8_phys.specs.Memory.{ram_size}
use Rattle.sv8_search.proofs.Differing.{differences_from, all_differences, none_wanted, found_next, found_none, difference_is}
use Rattle.sv8_search.proofs.compare.differences.Goals as goal

pub loop-left-init : goal.loop-left-init
loop-left-init g c =
    let before = c.args.before.now.memory.ram in
    let now = c.args.now.now.memory.ram in
    let size = ram_size g.row.PAGES in
    record {
      aligned = omega arith;
      all = ap (λ xs. xs ++ differences_from before now size 0 c.args.most) c.new-found.ensures.items ∙ all_differences before now size c.args.most;
    }

pub next_difference-requires : goal.next_difference-requires
next_difference-requires g c = (omega arith, c.loop-left.invariant.aligned)

pub returns-in_default : goal.returns-in_default
returns-in_default g c =
    found_none c.args.before.now.memory.ram c.args.now.now.memory.ram (ram_size g.row.PAGES) c.loop-left.from (omega arith) c.loop-left.invariant.aligned
    c.loop-left.found.items c.loop-left.left _ (omega (arith, c.loop-left-test.true)) (sym c.next_difference.ensures.value ∙ c.in_default.is) c.loop-left.invariant.all

pub loop-left-preserved : goal.loop-left-preserved
loop-left-preserved g c =
    let before = c.args.before.now.memory.ram in
    let now = c.args.now.now.memory.ram in
    let size = ram_size g.row.PAGES in
    let address = c.in-Some.address in
    let word = c.in-Some.ensures.word in
    let told = difference_is before now address c.word.result c.word-in-loop-left.result word.0 c.word.ensures c.word-in-loop-left.ensures in
    record {
      aligned = omega (arith, word.0);
      all = ap (λ xs. xs ++ differences_from before now size (address + 4) (c.loop-left.left - 1))
          (c.in_ok-push.ensures.items ∙ ap (λ d. c.loop-left.found.items ++ d ∷ []) (sym told))
          ∙ found_next before now size c.loop-left.from (omega arith) c.loop-left.invariant.aligned c.loop-left.found.items c.loop-left.left address _
          (omega (arith, c.loop-left-test.true)) (sym c.next_difference.ensures.value ∙ c.in-Some.is) c.loop-left.invariant.all;
    }

pub returns : goal.returns
returns g c =
    let before = c.args.before.now.memory.ram in
    let now = c.args.now.now.memory.ram in
    let size = ram_size g.row.PAGES in
    let none : c.loop-left.left ≡ 0 = omega (arith, c.loop-left-test.false) in
    sym (append-nil c.loop-left.found.items)
    ∙ ap (λ xs. c.loop-left.found.items ++ xs) (sym (ap (differences_from before now size c.loop-left.from) none ∙ none_wanted before now size c.loop-left.from))
    ∙ c.loop-left.invariant.all
