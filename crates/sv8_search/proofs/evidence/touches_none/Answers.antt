use Rattle.sv8_phys.specs.Memory.{ram_size}
use Rattle.std.proofs.Common.{◌∙◌, arith, sym, subst, MatchBool}
use Rattle.sv8_search.specs.Touching.{IsUntouched}
use Rattle.sv8_search.proofs.Passed.{inside_span, none_spared}
use Rattle.sv8_search.proofs.evidence.touches_none.Goals as goal

pub returns-in-Some : goal.returns-in-Some
returns-in-Some g c = λ e.
    let found = sym c.in-Some.is ∙ c.span.ensures in
    let inside = inside_span (ram_size g.row.PAGES) c.in-Some.span c.args.condition c.requires.inside (sym found) in
    let span = c.in-Some.span in
    let answer = subst (λ kind. MatchBool c.is_untouched.result (IsUntouched kind g.row.K c.args.bench.now span.address span.count c.args.from c.args.to)
    (IsUntouched kind g.row.K c.args.bench.now span.address span.count c.args.from c.args.to → ⊥)) c.touch_kind.ensures c.is_untouched.ensures in
    none_spared g.row.K c.args.bench.now c.args.condition span c.args.from c.args.to c.is_untouched.result answer e
    (omega (arith, c.sizes.ensures.pages, c.sizes.ensures.few_pages)) found (omega (arith, inside, c.sizes.ensures.pages))
