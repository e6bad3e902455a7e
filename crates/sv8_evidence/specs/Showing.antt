-- What recorded steps show, by the signs of their intervals.
use Rattle.std.specs.Prelude.{◌≡◌, ℕ, ◌/◌, ◌%◌, ◌<◌, ◌≤◌, false}
use Rattle.sv8_evidence.specs.declared.signs.Sign.{Sign}
use Rattle.sv8_trace.specs.Recording.{Recording, signs_of}
use Rattle.sv8_evidence.specs.Signs.{has_sign}

-- NO STEP from one on and below another has a sign
abbrev pub NoneShows : Sign → (k : ℕ) → Recording → (from to : ℕ) → Type 0
NoneShows sign k r from to = (n : ℕ) → from ≤ n → n < to → has_sign sign (n % k) (signs_of r (n / k)) ≡ false
