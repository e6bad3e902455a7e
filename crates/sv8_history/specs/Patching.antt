-- The parts of a patch, for the clauses of code that makes it.
use Rattle.std.specs.Prelude.{◌≡◌, ℕ, ◌<◌, ◌≤◌, ◌==◌, ◌&&◌, true, false, cond, leb, Option, option_map}
use Rattle.sv8_history.specs.Machine.{Machine, writes_of}
use Rattle.sv8_history.specs.Trace.{Trace}

-- `wrote` is the first step from `from` on that writes the cell, of those below `end`; or it is behind them
pub record IsFirstWrite (m : Machine) (trace : Trace m) (c : m.Cell) (from end wrote : ℕ) : Type 0 where
  pub before : (n : ℕ) → from ≤ n → n < wrote → n < end → writes_of m trace.notes c n ≡ false
  pub at : wrote < end → (from ≤ wrote) × (writes_of m trace.notes c wrote ≡ true)

-- the new trace keeps this of the cell at the step, and else what the old one keeps
abbrev pub KeptPut : (m : Machine) → Trace m → Trace m → ℕ → m.Cell → Option m.Value → Type 0
KeptPut m old new step c o = (n : ℕ) (b : m.Cell) → new.kept n b ≡ cond (n == step && m.same c b) o (old.kept n b)

-- the value kept below the event at `to`, if one is and the change comes so far, is another
abbrev pub RaisedAt : (m : Machine) → Trace m → Trace m → m.Cell → m.Value → ℕ → ℕ → Type 0
RaisedAt m old new c v to wrote =
    (n : ℕ) (b : m.Cell) → new.kept n b ≡ cond (n == to && m.same c b) (cond (leb to wrote) (option_map (λ w. v) (old.kept to c)) (old.kept to c)) (old.kept n b)
