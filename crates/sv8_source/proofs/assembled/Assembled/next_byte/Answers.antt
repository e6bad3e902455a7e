use Rattle.std.proofs.Common.{rules, ◌≡◌, ◌∙◌, Some, refl, sym, ap, arith}
use Rattle.std.specs.List.{slice_get}
use Rattle.sv8_source.specs.Kept.{code_bytes}
use Rattle.sv8_source.specs.Text.{Assembly}
use Rattle.sv8_source.proofs.ReadImage.{no_line, none_between}
use Rattle.sv8_source.proofs.assembled.Assembled.next_byte.Goals as goal

pub returns-then-count-eq0-clause-none : goal.returns-then-count-eq0-clause-none
returns-then-count-eq0-clause-none c =
    let k : c.places-places.result.now ≡ c.self.inside.places.items = c.places-places.ensures.value ∙ ap (λ (a : Assembly). a.layout.places) (sym c.self.view_is) in
    rw (← c.self.view_is) (λ a up low.
    no_line c.self.inside.places.items (code_bytes c.self.inside.code.items) 0 a c.self.invariant.0 refl (λ p e.
    let f : slice_get c.places-places.result.now 0 ≡ Some p = rw k e in
    let s = c.start_of-first.ensures.some p f in omega arith))

pub returns-clause-none : goal.returns-clause-none
returns-clause-none c =
    let k : c.places-places.result.now ≡ c.self.inside.places.items = c.places-places.ensures.value ∙ ap (λ (a : Assembly). a.layout.places) (sym c.self.view_is) in
    rw (← c.self.view_is) (none_between c.self.inside.places.items (code_bytes c.self.inside.code.items) c.lines_near-count.result c.start_of-next.result c.place_in-place.result.now c.bytes_in-bytes.result.now c.self.invariant.0
    c.if-count-eq0.false
    (rw (← k) c.place_in-place.ensures)
    (rw (← c.deref.ensures.value) c.bytes_in-bytes.ensures)
    (λ q e. c.start_of-next.ensures.some q (rw k e))
    c.args.address
    (c.lines_near-count.ensures.below c.place_in-place.result.now (search rules) c.place_in-place.ensures)
    (search rules))
