use Rattle.sv8_phys.specs.Memory.{ram_size}
use Rattle.std.proofs.Common.{◌∙◌, ◌+◌, arith, sym, subst}
use Rattle.sv8_notes.specs.Flags.{IsFlaggedUnless}
use Rattle.sv8_watch.specs.Touching.{kind_of}
use Rattle.sv8_search.specs.Touching.{IsUntouched}
use Rattle.sv8_search.proofs.Passed.{inside_span}
use Rattle.sv8_search.proofs.Planning.{flags_unless, untouched_missed}
use Rattle.sv8_search.proofs.plan.flag_touching.Goals as goal

pub returns-in-Some : goal.returns-in-Some
returns-in-Some g c =
    let a = c.args in
    let w = a.bench.now in
    let span = c.in-Some.span in
    let found = sym c.in-Some.is ∙ c.span.ensures in
    let inside = inside_span (ram_size g.row.PAGES) span a.condition c.requires.inside (sym found) in
    let flagged = subst (λ kind. IsFlaggedUnless (λ i. IsUntouched kind g.row.K w span.address span.count (a.from + i) (a.from + i + 1)) a.flags.now c.flag_touching.new.flags)
    c.touch_kind.ensures c.flag_touching.ensures in
    flags_unless w.kept a.condition a.from a.flags.now c.flag_touching.new.flags (λ i. IsUntouched (kind_of a.condition) g.row.K w span.address span.count (a.from + i) (a.from + i + 1)) flagged
    (λ i low spared. untouched_missed g.row.K w (a.from + i) a.condition span (omega (arith, c.sizes.ensures.pages, c.sizes.ensures.few_pages)) (sym found) (omega (arith, inside, c.sizes.ensures.pages)) spared)
