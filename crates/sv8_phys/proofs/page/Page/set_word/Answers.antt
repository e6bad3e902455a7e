use Rattle.std.proofs.Common.{◌≡◌, ap, ◌∙◌, ◌/◌, ◌%◌, ◌^◌, arith}
use Rattle.sv8_model.specs.Outside.{with_word}
use Rattle.sv8_phys.specs.Memory.{with_value}
use Rattle.sv8_phys.specs.Parts.{page_bytes}
use Rattle.sv8_phys.proofs.page.Page.set_word.Goals as goal

pub returns-clause-ok : goal.returns-clause-ok
unfolding with_value
returns-clause-ok c =
    let k = c.args.pa % 4096 / 4 in
    let fits : c.from.result % 2 ^ 32 ≡ c.args.value = omega (arith, c.from.ensures) in
    c.in_ok-write_copying.ensures.ok ∙ ap (λ v. with_word (page_bytes c.self.inside.halves) k v) fits ∙ ap (λ bytes. with_word bytes k c.args.value) c.self.view_is
