use Rattle.std.proofs.Common.{ℕ, List, ◌*◌, ◌+◌, ◌/◌, ◌%◌, set, ap, ◌∙◌}
use Rattle.std.proofs.lemmas.Result.{err_from_is_err_and}
use Rattle.sv8_phys.specs.Memory.{with_page}
use Rattle.sv8_phys.specs.Parts.{half_bytes, page_bytes}
use Rattle.sv8_phys.proofs.BlockLemmas.{in_half, half_full}
use Rattle.sv8_phys.proofs.GroupLemmas.{in_group, group_left, group_put}
use Rattle.sv8_phys.proofs.directory.Directory.put_page.Goals as goal

pub returns-in_err-put-clause-err : goal.returns-in_err-put-clause-err
returns-in_err-put-clause-err c =
    let p = err_from_is_err_and c.from_residual-in_err-put.result c.from_residual-in_err-put.ensures.1 in
    rw p.1 (λ n.
    group_left c.reach.new.self.groups.items (2 * c.args.page / 16) c.index_mut.result.now _ c.in_ok-reach.ensures.reached
    (c.in_err-put.ensures.err ∙ ap in_group c.index_mut.ensures.value) n
    ∙ c.in_ok-reach.ensures.same n)

pub returns-clause-ok : goal.returns-clause-ok
returns-clause-ok c = λ n below.
    let p = c.args.page in
    let halves = c.args.halves.now in
    let low = c.in_ok-low.low in
    let high = c.in_ok-high.high in
    let put = λ (hs : List (List ℕ)). set (set hs (2 * p % 16) (in_half low)) (2 * p % 16 + 1) (in_half high) in
    group_put c.reach.new.self.groups.items p c.index_mut.result.now _ (in_half low) (in_half high) halves c.in_ok-reach.ensures.reached
    (c.in_ok-put.ensures.ok ∙ ap (λ h. put (in_group h)) c.index_mut.ensures.value) (half_full low) (half_full high)
    (ap half_bytes c.in_ok-low.ensures.cases ∙ c.half.ensures) (ap half_bytes c.in_ok-high.ensures.cases ∙ c.half-2.ensures) n below
    ∙ ap (λ ram. with_page ram p (page_bytes halves)) (c.in_ok-reach.ensures.same n)
