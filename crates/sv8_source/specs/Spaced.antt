-- Where the places of a layout stand.
use Rattle.std.specs.Prelude.{ℕ, ◌+◌, ◌≤◌, List, [], ◌∷◌}
use Rattle.std.specs.Result.{result_unwrap_or}
use Rattle.sv8_statements.specs.declared.statement.Stmt.{Stmt}
use Rattle.sv8_asm.specs.Size.{size}
use Rattle.sv8_source.specs.Layout.{Place, HasSize}

-- the location after a statement that has a size
abbrev pub next_at : Stmt → ℕ → ℕ
next_at s at = at + result_unwrap_or (size s at) 0

-- each place has a size and is behind the one before it, from an address on, and the end behind all
abbrev pub Spaced : ℕ → List Place → ℕ → Type 0
Spaced from [] end = from ≤ end
Spaced from (p ∷ ps) end = (from ≤ p.at) × HasSize p × Spaced (next_at p.stmt p.at) ps end
