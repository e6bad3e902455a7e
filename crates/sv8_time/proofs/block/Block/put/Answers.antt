use Rattle.std.proofs.Common.{arith, ◌∙◌, ◌≤◌, sym, ap, subst, [], ◌∷◌, ◌++◌, length, length-set}
use Rattle.std.proofs.lemmas.List.{length-map, length-append}
use Rattle.sv8_time.specs.Order.{Stands, Misses}
use Rattle.sv8_time.specs.Schedule.{is_input_at, input_of, input_before}
use Rattle.sv8_time.specs.Inputs.{given, givens}
use Rattle.std.proofs.lemmas.List.Edits.{length-insert}
use Rattle.sv8_time.proofs.InputPlaces.{fresh_replaced, fresh_inserted, length_starts, counted_replaced, counted_inserted}
use Rattle.sv8_time.proofs.block.Block.put.Goals as goal

pub replace_at-requires : goal.replace_at-requires
replace_at-requires c =
    let h = c.in-Ok.ensures [] in
    let w = h.within in
    omega (arith, ap length c.self.view_is, length-map c.self.inside.entries.items given, c.self.inside.entries.ok.0)

pub recount-self-inside-requires-clause-same : goal.recount-self-inside-requires-clause-same
recount-self-inside-requires-clause-same c =
    let g = givens c.self.inside.entries.items in
    omega (
      arith,
      ap length c.self.invariant.starts_are,
      length_starts 0 g,
      ap length c.replace_at.ensures,
      length-set g c.in-Ok.index (input_of c.args.step c.in_ok-from_slice.field-0.items),
      length-map c.replace_at.new.entries.items given,
      ap length c.deref.ensures.value,
    )

pub recount-self-inside-requires-clause-fits : goal.recount-self-inside-requires-clause-fits
recount-self-inside-requires-clause-fits c =
    let g = givens c.self.inside.entries.items in
    let bytes = c.in_ok-from_slice.field-0.items in
    let b : length bytes ≤ 1024 = omega (arith, ap length c.in_ok-from_slice.ensures.items, c.requires.short) in
    let h = subst (λ l. Stands input_before (is_input_at c.args.step) (input_of c.args.step bytes) l c.in-Ok.index) (sym c.self.view_is) (c.in-Ok.ensures bytes) in
    let k = fresh_replaced c.args.step bytes g c.in-Ok.index b c.self.invariant.short c.self.invariant.few h in
    rw (ap givens c.deref.ensures.value ∙ c.replace_at.ensures) k.fits

pub insert_at-requires : goal.insert_at-requires
insert_at-requires c =
    let h = c.in-Err.ensures [] in
    let w = h.within in
    omega (arith, ap length c.self.view_is, length-map c.self.inside.entries.items given, c.self.inside.entries.ok.0)

pub recount-self-inside-requires-in-Err-clause-same : goal.recount-self-inside-requires-in-Err-clause-same
recount-self-inside-requires-in-Err-clause-same c =
    let g = givens c.self.inside.entries.items in
    let h = c.in-Err.ensures [] in
    let w = h.within in
    omega (
      arith,
      ap length c.self.view_is,
      ap length c.self.invariant.starts_are,
      length_starts 0 g,
      ap length c.in_ok-insert_at-in-Err.ensures.ok,
      length-insert g c.in-Err.index (input_of c.args.step c.in_ok-from_slice.field-0.items) (omega (arith, ap length c.self.view_is)),
      ap length c.in_ok-insert_at-in-Err.ensures.starts,
      length-append c.self.inside.starts.items (0 ∷ []),
      length-map c.insert_at.new.entries.items given,
      ap length c.deref-in-Err.ensures.value,
    )

pub recount-self-inside-requires-in-Err-clause-fits : goal.recount-self-inside-requires-in-Err-clause-fits
recount-self-inside-requires-in-Err-clause-fits c =
    let g = givens c.self.inside.entries.items in
    let bytes = c.in_ok-from_slice.field-0.items in
    let b : length bytes ≤ 1024 = omega (arith, ap length c.in_ok-from_slice.ensures.items, c.requires.short) in
    let m = c.in-Err.ensures bytes in
    let h = subst (λ l. Misses input_before (is_input_at c.args.step) (input_of c.args.step bytes) l c.in-Err.index) (sym c.self.view_is) m in
    let k = fresh_inserted c.args.step bytes g c.in-Err.index b c.self.invariant.short (omega (arith, ap length c.self.view_is, c.requires.room m.absent)) h in
    rw (ap givens c.deref-in-Err.ensures.value ∙ c.in_ok-insert_at-in-Err.ensures.ok) k.fits

pub start-before-requires : goal.start-before-requires
start-before-requires c = let h = c.in-Ok.ensures [] in let w = h.within in omega arith

pub start-before-requires-in-Err : goal.start-before-requires-in-Err
start-before-requires-in-Err c = let h = c.in-Err.ensures [] in h.within

pub recount-self-inside-requires-clause-front : goal.recount-self-inside-requires-clause-front
recount-self-inside-requires-clause-front c =
    let g = givens c.self.inside.entries.items in
    let k = counted_replaced c.self.inside.starts.items c.start-before.result c.in-Ok.index g (input_of c.args.step c.in_ok-from_slice.field-0.items) c.self.invariant.starts_are (rw c.self.view_is c.start-before.ensures) in
    rw (ap givens c.deref.ensures.value ∙ c.replace_at.ensures) k.front

pub recount-self-inside-requires-clause-sum : goal.recount-self-inside-requires-clause-sum
recount-self-inside-requires-clause-sum c =
    let g = givens c.self.inside.entries.items in
    let k = counted_replaced c.self.inside.starts.items c.start-before.result c.in-Ok.index g (input_of c.args.step c.in_ok-from_slice.field-0.items) c.self.invariant.starts_are (rw c.self.view_is c.start-before.ensures) in
    rw (ap givens c.deref.ensures.value ∙ c.replace_at.ensures) k.sum

pub recount-self-inside-requires-in-Err-clause-front : goal.recount-self-inside-requires-in-Err-clause-front
recount-self-inside-requires-in-Err-clause-front c =
    let g = givens c.self.inside.entries.items in
    let h = c.in-Err.ensures [] in
    let k = counted_inserted c.insert_at.new.starts.items c.start-before-in-Err.result c.in-Err.index g (input_of c.args.step c.in_ok-from_slice.field-0.items) (rw c.self.view_is h.within)
    (c.in_ok-insert_at-in-Err.ensures.starts ∙ ap (λ l. l ++ 0 ∷ []) c.self.invariant.starts_are) (rw c.self.view_is c.start-before-in-Err.ensures) in
    rw (ap givens c.deref-in-Err.ensures.value ∙ c.in_ok-insert_at-in-Err.ensures.ok) k.front

pub recount-self-inside-requires-in-Err-clause-sum : goal.recount-self-inside-requires-in-Err-clause-sum
recount-self-inside-requires-in-Err-clause-sum c =
    let g = givens c.self.inside.entries.items in
    let h = c.in-Err.ensures [] in
    let k = counted_inserted c.insert_at.new.starts.items c.start-before-in-Err.result c.in-Err.index g (input_of c.args.step c.in_ok-from_slice.field-0.items) (rw c.self.view_is h.within)
    (c.in_ok-insert_at-in-Err.ensures.starts ∙ ap (λ l. l ++ 0 ∷ []) c.self.invariant.starts_are) (rw c.self.view_is c.start-before-in-Err.ensures) in
    rw (ap givens c.deref-in-Err.ensures.value ∙ c.in_ok-insert_at-in-Err.ensures.ok) k.sum
