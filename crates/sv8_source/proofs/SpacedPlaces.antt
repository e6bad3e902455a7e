-- One more place.
use Rattle.std.proofs.Common.{ℕ, ◌≤◌, List, [], ◌∷◌, ◌++◌}
use Rattle.sv8_source.specs.Layout.{Place, HasSize}
use Rattle.sv8_source.specs.Spaced.{Spaced, next_at}

pub Spaced_push : (from : ℕ) (ps : List Place) (p : Place) (next : ℕ) → Spaced from ps p.at → HasSize p → next_at p.stmt p.at ≤ next → Spaced from (ps ++ p ∷ []) next
Spaced_push from [] p next s k h = (s, k, h)
Spaced_push from (q ∷ ps) p next s k h = (s.0, s.1, Spaced_push (next_at q.stmt q.at) ps p next s.2 k h)
