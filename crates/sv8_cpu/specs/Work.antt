-- The count of steps.
use Rattle.std.specs.Prelude.{ℕ, zero, suc, ◌+◌, ◌-◌, ◌^◌, min}

-- one step more; at 2^64 - 1 the count stays
abbrev pub counted : ℕ → ℕ
counted done = min (done + 1) (2 ^ 64 - 1)

-- so many steps more
abbrev pub counted_by : ℕ → ℕ → ℕ
counted_by zero done = done
counted_by (suc n) done = counted (counted_by n done)
