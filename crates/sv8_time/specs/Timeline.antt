-- The steps of a timeline that have events are marked.
use Rattle.std.specs.Prelude.{◌≡◌, Bool, true, List}
use Rattle.sv8_time.specs.Order.{Each}
use Rattle.sv8_time.specs.Marks.{is_marked}
use Rattle.sv8_time.specs.Schedule.{Schedule, IsTimeline}

pub record Sound (marks : List Bool) (s : Schedule) : Type 0 where
  pub timeline : IsTimeline s
  pub pokes_marked : Each (λ p. is_marked marks p.step ≡ true) s.pokes
  pub inputs_marked : Each (λ i. is_marked marks i.step ≡ true) s.inputs
  pub requests_marked : Each (λ r. is_marked marks r.step ≡ true) s.requests
