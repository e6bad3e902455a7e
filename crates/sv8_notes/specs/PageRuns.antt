-- Pages of checkpoints, as runs of checkpoints that have the same page.
use Rattle.std.specs.Prelude.{◌≡◌, ℕ, zero, suc, ◌+◌, ◌<◌, ◌≤◌, ◌%◌, ◌++◌, List, [], ◌∷◌, length, replicate, slice_index_or, slice_set}
use Rattle.sv8_notes.specs.declared.runs.PageRun.{PageRun}
use Rattle.sv8_notes.specs.declared.runs.Place.{Place}

-- the page of each checkpoint
abbrev pub expand : List PageRun → List (List ℕ)
expand [] = []
expand (r ∷ rs) = replicate r.count r.page ++ expand rs

-- how many checkpoints the first n runs have
abbrev pub before : ℕ → List PageRun → ℕ
before zero rs = 0
before (suc n) [] = 0
before (suc n) (r ∷ rs) = r.count + before n rs

-- what stands where there is no run
abbrev pub no_run : PageRun
no_run = record { page = []; count = 0 }

-- a run with another byte in its page
abbrev pub with_byte : ℕ → ℕ → PageRun → PageRun
with_byte address value r = record r { page = slice_set r.page (address % 4096) value }

-- the run of checkpoint `at`, and the place in it; or the place behind the last run
pub record IsPlace (runs : List PageRun) (at : ℕ) (p : Place) : Type 0 where
  pub run : p.run ≤ length runs
  pub reaches : before p.run runs + p.offset ≡ at
  pub inside : p.run < length runs → p.offset < (slice_index_or runs p.run no_run).count
