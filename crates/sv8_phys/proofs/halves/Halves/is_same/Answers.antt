use Rattle.std.proofs.Common.{◌≡◌, sym, ap, ◌∙◌, inl, inr, subst, arith}
use Rattle.std.proofs.lemmas.Bool.{cases_lt}
use Rattle.sv8_phys.specs.Parts.{part_at, part_of, half_bytes, halves_of}
use Rattle.sv8_phys.proofs.AllBytes.{same-all}
use Rattle.sv8_phys.proofs.BlockLemmas.{in_half, half_full}
use Rattle.sv8_phys.proofs.Handles.{is_part, same_part}
use Rattle.sv8_phys.proofs.Sizes.{of_half}
use Rattle.sv8_phys.proofs.halves.Halves.is_same.Goals as goal

pub returns-then-not-is_same : goal.returns-then-not-is_same
returns-then-not-is_same c = λ same.
    let own = c.args.self.now in
    let other = c.args.other.now in
    let p = c.loop-place.place in
    let below = c.loop-place-test.true in
    c.if-not-is_same.ensures (ap half_bytes c.deref.ensures
    ∙ is_part in_half 2048 of_half 2 half_full own.halves own.all p _ below
    ∙ ap (λ bytes. part_of 2048 bytes p) same
    ∙ sym (ap half_bytes c.deref-in-loop-place.ensures ∙ is_part in_half 2048 of_half 2 half_full other.halves other.all p _ below))

pub loop-place-preserved : goal.loop-place-preserved
loop-place-preserved c = λ p below. elim (cases_lt p c.loop-place.place) [
  | inl before ↦ c.loop-place.invariant p before
  | inr past ↦
      let own = c.args.self.now in
      let other = c.args.other.now in
      let here : c.loop-place.place ≡ p = omega (arith, below, past) in
      let same = same_part in_half 2048 of_half 2 half_full own.halves own.all other.halves c.loop-place.place _ _ other.all c.loop-place-test.true
      (sym (ap half_bytes c.deref.ensures) ∙ c.if-not-is_same.ensures ∙ ap half_bytes c.deref-in-loop-place.ensures) in
      subst (λ q. part_at (halves_of own.halves) q ≡ part_at (halves_of other.halves) q) here same
]

pub returns : goal.returns
returns c = same-all 2048 of_half 2 (halves_of c.args.self.now.halves) (halves_of c.args.other.now.halves) (λ p below. c.loop-place.invariant p (omega (arith, below, c.loop-place-test.false)))
