use Rattle.std.proofs.Common.{arith, ◌≡◌, ◌∙◌, sym, ap, subst, [], length, option_map, Some}
use Rattle.std.proofs.lemmas.List.{length-map}
use Rattle.std.specs.List.{slice_get}
use Rattle.sv8_time.specs.Schedule.{is_input_at, input_bytes}
use Rattle.sv8_time.specs.Inputs.{given, givens}
use Rattle.sv8_time.proofs.InputPlaces.{alone_bytes, short_at}
use Rattle.sv8_time.proofs.block.Block.at.Goals as goal

pub bytes_in-requires : goal.bytes_in-requires
bytes_in-requires c =
    let h = c.in-Ok.ensures [] in
    let w = h.within in
    omega (arith, ap length c.self.view_is, length-map c.self.inside.entries.items given, ap length c.deref.ensures.value)

pub returns-in-Ok-clause-value : goal.returns-in-Ok-clause-value
returns-in-Ok-clause-value c =
    let h = c.in-Ok.ensures [] in
    alone_bytes (is_input_at c.args.step) c.args.self.now c.in-Ok.index c.bytes_in.result.now h.alone
    (subst (λ l. option_map (λ i. i.bytes) (slice_get l c.in-Ok.index) ≡ Some c.bytes_in.result.now) (ap givens c.deref.ensures.value ∙ c.self.view_is) c.bytes_in.ensures)

pub returns-in-Err-clause-value : goal.returns-in-Err-clause-value
returns-in-Err-clause-value c = let h = c.in-Err.ensures [] in ap input_bytes (sym h.none)

pub returns-in-Ok-clause-short : goal.returns-in-Ok-clause-short
returns-in-Ok-clause-short c = short_at (givens c.self.inside.entries.items) c.in-Ok.index c.bytes_in.result.now c.self.invariant.short (subst (λ l. option_map (λ i. i.bytes) (slice_get (givens l) c.in-Ok.index) ≡ Some c.bytes_in.result.now) c.deref.ensures.value c.bytes_in.ensures)
