use Rattle.std.proofs.Common.{◌≡◌, ◌-◌, ◌^◌, ◌-ℤ◌, ◌<ℤ◌, ◌≤ℤ◌, inl, inr, pos, w32, of_z, arith, ◌∙◌, ap}
use Rattle.std.proofs.lemmas.Nat.{one_shl, pow_below, and_mask}
use Rattle.std.proofs.lemmas.Int.{ints, to_z-of_z}
use Rattle.sv8_isa.proofs.FieldLemmas.{signed_bits_in, signed_bits_out}
use Rattle.sv8_isa.proofs.word.signed_bits.Goals as goal
use Rattle.sv8_isa.proofs.word.signed_bits.Goals.{else-half-value-via-then-half-value+else-value-half, else-half-value-via-else-half-value}

pub overflow_sub-half-2 : goal.overflow_sub-half-2
overflow_sub-half-2 c =
    let half = one_shl (c.args.width - 1) 32 (omega arith) in
    let below = pow_below (c.args.width - 1) 31 (omega arith) in
    omega (arith, ints)

pub returns-then-value-half-clause-value : goal.returns-then-value-half-clause-value
returns-then-value-half-clause-value c =
    let half = one_shl (c.args.width - 1) 32 (omega arith) in
    let below = pow_below (c.args.width - 1) 31 (omega arith) in
    let whole = one_shl c.args.width 32 (omega arith) in
    let low : (pos 0 -ℤ pos (2 ^ (c.args.width - 1))) ≤ℤ c.args.value = grind (arith, ints) in
    let high : c.args.value <ℤ pos (2 ^ (c.args.width - 1)) = grind (arith, ints) in
    let bits : c.cast_unsigned.result ≡ of_z w32 c.args.value = c.cast_unsigned.ensures ∙ ap (of_z w32) (to_z-of_z w32 c.args.value c.ranges.value) in
    rw (bits, whole, and_mask) (signed_bits_in c.args.value c.args.width c.requires.some c.requires.in_word low high)

pub returns-else-half-value-clause-value : goal.returns-else-half-value-clause-value
returns-else-half-value-clause-value c =
    let half = one_shl (c.args.width - 1) 32 (omega arith) in
    let below = pow_below (c.args.width - 1) 31 (omega arith) in
    signed_bits_out c.args.value c.args.width
    (elim c.else-half-value.branch [
      | else-half-value-via-then-half-value+else-value-half w ↦ inr (let g : pos (2 ^ (c.args.width - 1)) ≤ℤ c.args.value = grind (arith, ints) in g)
      | else-half-value-via-else-half-value w ↦ inl (let g : c.args.value <ℤ (pos 0 -ℤ pos (2 ^ (c.args.width - 1))) = grind (arith, ints) in g)
    ])
