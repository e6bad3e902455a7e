use Rattle.std.proofs.Common.{◌≡◌, ap, ◌∙◌, ◌%◌, ◌^◌, set, arith}
use Rattle.sv8_model.specs.Outside.{with_byte}
use Rattle.sv8_phys.specs.Memory.{with_value}
use Rattle.sv8_phys.specs.Parts.{page_bytes}
use Rattle.sv8_phys.proofs.page.Page.set_byte.Goals as goal

pub returns-clause-ok : goal.returns-clause-ok
unfolding with_value with_byte
returns-clause-ok c =
    let at = c.args.pa % 4096 in
    let fits : c.from.result % 2 ^ 8 ≡ c.args.value = omega (arith, c.from.ensures) in
    c.in_ok-write_copying.ensures.ok ∙ ap (λ v. set (page_bytes c.self.inside.halves) at v) fits ∙ ap (λ bytes. set bytes at c.args.value) c.self.view_is
