-- Flags of steps, one after the other.
use Rattle.std.specs.Prelude.{◌≡◌, ◌⊎◌, ℕ, ◌<◌, ◌||◌, Bool, true, false, List, length, slice_index_or, MatchBool}

-- THE FLAGS OF SOME STEPS ARE SET, and the others are as they were
pub record IsFlagged (some : ℕ → Bool) (old new : List Bool) : Type 0 where
  pub count : length new ≡ length old
  pub flags : (i : ℕ) → i < length old → slice_index_or new i false ≡ (slice_index_or old i false || some i)

-- THE FLAGS OF ALL STEPS ARE SET BUT OF THOSE THAT ARE SPARED, whose flags are as they were
pub record IsFlaggedUnless (Spared : ℕ → Type 0) (old new : List Bool) : Type 0 where
  pub count : length new ≡ length old
  pub flags : (i : ℕ) → i < length old
      → MatchBool (slice_index_or new i false) ((slice_index_or old i false ≡ true) ⊎ (Spared i → ⊥)) ((slice_index_or old i false ≡ false) × Spared i)
