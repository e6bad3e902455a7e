use Rattle.std.proofs.Common.{◌≡◌, ◌≤◌, ◌<◌, ◌+◌, ◌-◌, ◌/◌, ◌∙◌, ap, sym, length, arith}
use Rattle.sv8_search.specs.Search.{is_wanted}
use Rattle.sv8_search.proofs.Sought.{divided}
use Rattle.sv8_search.proofs.plan.Plan.passable.Goals as goal

pub returns-clause-none : goal.returns-clause-none
returns-clause-none g c = λ n low high.
    let a = c.args in
    let plan = c.in_ok-reach.ensures in
    let start = c.reach.new.self.start in
    let i = n - start in
    let there : start + i ≡ n = omega (arith, low, plan.begun) in
    let below : n < c.next.result = omega (arith, high, c.min-end.ensures) in
    let inside : i < length c.reach.new.self.flags.items = omega (arith, below, c.next.ensures.end, low, plan.begun) in
    let unset = c.next.ensures.unset i (omega (arith, there, low)) (omega (arith, there, below)) in
    ap (is_wanted a.bench.now.kept a.conditions.now) (sym there) ∙ plan.plan.missed i inside unset

pub returns-clause-recorded : goal.returns-clause-recorded
returns-clause-recorded g c = λ less.
    let a = c.args in
    let plan = c.in_ok-reach.ensures in
    let start = c.reach.new.self.start in
    let flags = c.reach.new.self.flags.items in
    let i = a.step - start in
    let there : start + i ≡ a.step = omega (arith, plan.begun) in
    let below : a.step < c.next.result = omega (arith, less, c.min-end.ensures) in
    let inside : i < length flags = omega (arith, plan.inside, there) in
    let unset = c.next.ensures.unset i (omega (arith, there)) (omega (arith, there, below)) in
    let most = plan.plan.recorded i inside unset in
    let low : c.min-end.result ≤ start + length flags = omega (arith, c.min-end.ensures, c.next.ensures.end) in
    let quotient : c.min-end.result / g.row.K ≤ (start + length flags) / g.row.K = divided g.row.K c.min-end.result (start + length flags) c.sizes.ensures.some_steps low in
    omega (arith, quotient, most)
