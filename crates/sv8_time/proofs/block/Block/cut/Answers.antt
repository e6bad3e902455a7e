use Rattle.std.proofs.Common.{arith, ◌∙◌, sym, ap, subst, [], length}
use Rattle.std.proofs.lemmas.List.{length-map}
use Rattle.std.proofs.lemmas.List.Edits.{length-remove}
use Rattle.std.proofs.lemmas.Bool.{both_ways}
use Rattle.std.specs.List.{remove}
use Rattle.sv8_time.specs.Order.{Stands}
use Rattle.sv8_time.specs.Schedule.{is_input_at, input_of, input_before, byte_count, has_input}
use Rattle.sv8_time.specs.Inputs.{given, givens, starts_of}
use Rattle.sv8_time.proofs.InputPlaces.{fresh_removed, length_starts, counted_removed}
use Rattle.sv8_time.proofs.block.Block.cut.Goals as goal

pub remove_at-requires-clause-within : goal.remove_at-requires-clause-within
remove_at-requires-clause-within c =
    let h = c.in-Ok.ensures [] in
    let w = h.within in
    omega (arith, ap length c.self.view_is, length-map c.self.inside.entries.items given, c.self.inside.entries.ok.0)

pub remove_at-requires-clause-same : goal.remove_at-requires-clause-same
remove_at-requires-clause-same c = ap length c.self.invariant.starts_are ∙ (length_starts 0 (givens c.self.inside.entries.items) ∙ length-map c.self.inside.entries.items given)

pub recount-self-inside-requires-clause-fits : goal.recount-self-inside-requires-clause-fits
recount-self-inside-requires-clause-fits c =
    let g = givens c.self.inside.entries.items in
    let h = subst (λ l. Stands input_before (is_input_at c.args.step) (input_of c.args.step []) l c.in-Ok.index) (sym c.self.view_is) (c.in-Ok.ensures []) in
    let k = fresh_removed c.args.step [] g c.in-Ok.index c.self.invariant.short c.self.invariant.few h in
    rw (ap givens c.deref.ensures.value ∙ c.remove_at.ensures.entries) k.fits

pub invariant_of-self : goal.invariant_of-self
invariant_of-self c =
    let g = givens c.self.inside.entries.items in
    let h = subst (λ l. Stands input_before (is_input_at c.args.step) (input_of c.args.step []) l c.in-Ok.index) (sym c.self.view_is) (c.in-Ok.ensures []) in
    let k = fresh_removed c.args.step [] g c.in-Ok.index c.self.invariant.short c.self.invariant.few h in
    record {
      rising = rw c.remove_at.ensures.entries k.rising;
      short = rw c.remove_at.ensures.entries k.short;
      few = rw c.remove_at.ensures.entries k.few;
      starts_are = c.recount-self-inside.ensures.starts ∙ ap (λ l. starts_of 0 (givens l)) c.deref.ensures.value;
      total_is = c.recount-self-inside.ensures.total ∙ ap (λ l. byte_count (givens l)) c.deref.ensures.value;
    }

pub returns-in-Ok-clause-value : goal.returns-in-Ok-clause-value
returns-in-Ok-clause-value c =
    let h = c.in-Ok.ensures [] in
    c.remove_at.ensures.entries ∙ (ap (λ l. remove l c.in-Ok.index) c.self.view_is ∙ sym h.removed)

pub returns-in-Err-clause-value : goal.returns-in-Err-clause-value
returns-in-Err-clause-value c = let h = c.in-Err.ensures [] in absurd (both_ways (has_input c.args.step c.args.self.now) h.absent c.requires)

pub start-before-requires : goal.start-before-requires
start-before-requires c = let h = c.in-Ok.ensures [] in let w = h.within in omega arith

pub recount-self-inside-requires-clause-same : goal.recount-self-inside-requires-clause-same
recount-self-inside-requires-clause-same c =
    let h = c.in-Ok.ensures [] in
    let w = h.within in
    let g = givens c.self.inside.entries.items in
    omega (
      arith,
      ap length c.remove_at.ensures.starts,
      length-remove c.self.inside.starts.items c.in-Ok.index (omega (arith, ap length c.self.view_is, ap length c.self.invariant.starts_are, length_starts 0 g)),
      ap length c.self.view_is,
      ap length c.self.invariant.starts_are,
      length_starts 0 g,
      ap length c.remove_at.ensures.entries,
      length-remove g c.in-Ok.index (omega (arith, ap length c.self.view_is)),
      length-map c.remove_at.new.entries.items given,
      ap length c.deref.ensures.value,
    )

pub recount-self-inside-requires-clause-front : goal.recount-self-inside-requires-clause-front
recount-self-inside-requires-clause-front c =
    let g = givens c.self.inside.entries.items in
    let h = c.in-Ok.ensures [] in
    let w = h.within in
    let k = counted_removed c.remove_at.new.starts.items c.start-before.result c.in-Ok.index g (omega (arith, ap length c.self.view_is)) (c.remove_at.ensures.starts ∙ ap (λ l. remove l c.in-Ok.index) c.self.invariant.starts_are) (rw c.self.view_is c.start-before.ensures) in
    rw (ap givens c.deref.ensures.value ∙ c.remove_at.ensures.entries) k.front

pub recount-self-inside-requires-clause-sum : goal.recount-self-inside-requires-clause-sum
recount-self-inside-requires-clause-sum c =
    let g = givens c.self.inside.entries.items in
    let h = c.in-Ok.ensures [] in
    let w = h.within in
    let k = counted_removed c.remove_at.new.starts.items c.start-before.result c.in-Ok.index g (omega (arith, ap length c.self.view_is)) (c.remove_at.ensures.starts ∙ ap (λ l. remove l c.in-Ok.index) c.self.invariant.starts_are) (rw c.self.view_is c.start-before.ensures) in
    rw (ap givens c.deref.ensures.value ∙ c.remove_at.ensures.entries) k.sum
