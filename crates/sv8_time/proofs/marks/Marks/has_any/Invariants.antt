use Rattle.std.proofs.Common.{◌≡◌, ℕ, ◌≤◌, ◌<◌, false}
use Rattle.sv8_time.specs.Marks.{is_marked}
use Rattle.sv8_time.proofs.marks.Marks.has_any.Given as goal

abbrev pub invariant-loop-step : goal.invariant-loop-step
invariant-loop-step l = (n : ℕ) → l.from ≤ n → n < l.step → is_marked l.self n ≡ false
