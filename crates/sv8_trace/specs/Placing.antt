-- The parts of a commit, for the clauses of the code that makes it.
use Rattle.std.specs.Prelude.{◌≡◌, ℕ, ◌<◌, List, length, slice_index_or, Option, unwrap_or}
use Rattle.sv8_phys.specs.Memory.{ram_size}
use Rattle.sv8_phys.specs.Contents.{Contents}
use Rattle.sv8_notes.specs.declared.kept.Kept.{Kept}
use Rattle.sv8_cpu.specs.State.{State}
use Rattle.sv8_trace.specs.declared.interval.Interval.{Interval}
use Rattle.sv8_trace.specs.Recording.{blank}

abbrev pub with_kept : Option (List Kept) → Interval → Interval
with_kept o i = record i { kept = unwrap_or o i.kept }

-- RAM has so many pages, and each level is pending or not
pub record IsSound (pages : ℕ) (m : Contents) : Type 0 where
  pub size : length m.ram ≡ ram_size pages
  pub count : length m.pending ≡ 16

-- each state is one of a machine with so many pages
abbrev pub AreSound : ℕ → List State → Type 0
AreSound pages points = (i : ℕ) → i < length points → IsSound pages (slice_index_or points i blank).memory
