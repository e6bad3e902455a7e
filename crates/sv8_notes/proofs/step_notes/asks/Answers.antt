use Rattle.std.proofs.Common.{◌≡◌, ◌/◌, ◌%◌, ◌^◌, ◌<◌, ◌≤◌, ◌==◌, ◌*◌, sym, ap, ◌∙◌, arith, div-lt_iff_lt-mul, le-ltb}
use Rattle.std.proofs.Math.Pow.{pow_mono}
use Rattle.sv8_notes.proofs.step_notes.asks.Goals as goal

pub returns-else-level-lt16 : goal.returns-else-level-lt16
returns-else-level-lt16 c =
    let wide : 2 ^ 16 ≤ 2 ^ c.args.level = pow_mono c.if-level-lt16.false in
    let pos : 0 < 2 ^ c.args.level = omega (arith, wide) in
    let small : c.args.levels < 1 * 2 ^ c.args.level = omega (arith, wide, c.ranges.levels.fits) in
    let below = (div-lt_iff_lt-mul pos).1 small in
    let none : c.args.levels / 2 ^ c.args.level ≡ 0 = omega (arith, below) in
    le-ltb c.args.level 16 (c.if-level-lt16.false) ∙ sym (ap (λ n. n % 2 == 1) none)
