-- Steps that are counted one by one, and at once.
use Rattle.std.proofs.Common.{◌≡◌, ℕ, zero, suc, ◌+◌, ◌-◌, ◌^◌, ◌<◌, min, arith, ◌∙◌, ap}
use Rattle.sv8_cpu.specs.Work.{counted, counted_by}

pub counted_at_once : (count done : ℕ) → done < 2 ^ 64 → min (done + count) (2 ^ 64 - 1) ≡ counted_by count done
counted_at_once zero done few = omega arith
counted_at_once (suc count) done few =
    let before = counted_at_once count done few in
    let more : min (done + suc count) (2 ^ 64 - 1) ≡ counted (min (done + count) (2 ^ 64 - 1)) = omega arith in
    more ∙ ap counted before
