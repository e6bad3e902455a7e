-- What a patch makes of checkpoints that are being prepared.
use Rattle.std.specs.Prelude.{◌≡◌, ℕ, ◌≤◌, ◌&&◌, cond, leb, ltb, slice_index_or}
use Rattle.sv8_model.specs.Cells.{Cell, Value}
use Rattle.sv8_cpu.specs.Recorded.{put}
use Rattle.sv8_trace.specs.declared.prepared.Staged.{Staged}
use Rattle.sv8_trace.specs.Recording.{Recording, blank}
use Rattle.sv8_trace.specs.Prepared.{placed}

-- the cell has another value in the checkpoints from `low` on and below `end`
abbrev pub PointsSet : Recording → Staged → Staged → Cell → Value → ℕ → ℕ → Type 0
PointsSet r old new c v low end =
    (i : ℕ) → i ≤ old.count → placed new i (slice_index_or r.points i blank)
    ≡ cond (leb low i && ltb i end) (put c v (placed old i (slice_index_or r.points i blank))) (placed old i (slice_index_or r.points i blank))
