use Rattle.std.proofs.Common.{◌≡◌, ◌-◌, ◌*◌, ◌%◌, ◌^◌, pos, w32, to_z, arith, sym, ◌∙◌}
use Rattle.std.proofs.lemmas.Nat.{one_shl, pow_below}
use Rattle.std.proofs.lemmas.Int.{ints, to_z_pos, to_z-of_z}
use Rattle.sv8_isa.proofs.FieldLemmas.{signed_low, signed_high}
use Rattle.sv8_isa.proofs.word.sign_extend.Goals as goal

pub overflow_sub-result : goal.overflow_sub-result
overflow_sub-result c =
    let whole = one_shl c.args.width 32 (omega arith) in
    let below = pow_below c.args.width 31 (omega arith) in
    omega (arith, ints)

pub returns-then-value-width : goal.returns-then-value-width
returns-then-value-width c =
    let half = one_shl (c.args.width - 1) 32 (omega arith) in
    let below = pow_below c.args.width 31 (omega arith) in
    to_z_pos w32 c.args.value (omega arith) ∙ sym (signed_low c.args.value c.args.width (omega arith))

pub returns-else-value-width : goal.returns-else-value-width
returns-else-value-width c =
    let half = one_shl (c.args.width - 1) 32 (omega arith) in
    let whole = one_shl c.args.width 32 (omega arith) in
    let below = pow_below c.args.width 31 (omega arith) in
    let v : to_z w32 c.args.value ≡ pos c.args.value = to_z_pos w32 c.args.value (omega arith) in
    let p : to_z w32 (1 * 2 ^ c.args.width % 2 ^ 32) ≡ pos (2 ^ c.args.width) = rw whole (to_z_pos w32 (2 ^ c.args.width) below) in
    to_z-of_z w32 _ (overflow_sub-result c) ∙ rw (v, p) (sym (signed_high c.args.value c.args.width (omega arith)))
