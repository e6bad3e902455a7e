-- The numbers of register windows that may be chosen.
use Rattle.std.specs.Prelude.{ℕ, Bool, ◌==◌, ◌||◌}

abbrev pub is_window_count : ℕ → Bool
is_window_count n = n == 2 || n == 4 || n == 8 || n == 16 || n == 32
