use Rattle.std.proofs.Common.{◌≡◌, ◌≤◌, ◌<◌, ℕ, false}
use Rattle.sv8_watch.specs.Happening.{stands_at}
use Rattle.sv8_search.proofs.evidence.stands_between.Given as goal

abbrev pub invariant-loop-n : goal.invariant-loop-n
invariant-loop-n l = (m : ℕ) → l.from ≤ m → m < l.n → stands_at l.timeline m ≡ false
