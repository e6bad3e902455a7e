-- What a workbench keeps, and what an edit makes of it.
use Rattle.std.specs.Prelude.{ℕ, ◌*◌, List, []}
use Rattle.sv8_source.specs.Text.{Text, replaced}
use Rattle.sv8_time.specs.Schedule.{Schedule}

pub record Kept : Type 0 where
  -- the machine's register windows and pages of RAM, which no edit changes
  pub windows : ℕ
  pub pages : ℕ
  pub source : Text
  -- the outside events
  pub timeline : Schedule

-- a new workbench over a machine with so many windows and pages
abbrev pub empty : ℕ → ℕ → Kept
empty windows pages = record {
  windows = windows;
  pages = pages;
  source = record { limit = 4096 * pages; lines = [] };
  timeline = record { limit = 4096 * pages; pokes = []; inputs = []; requests = [] };
}

-- lines first to last are replaced by these
abbrev pub edited : ℕ → ℕ → List (List ℕ) → Kept → Kept
edited first last lines k = record k { source = replaced first last lines k.source }

-- the outside events are these
abbrev pub with_timeline : Schedule → Kept → Kept
with_timeline timeline k = record k { timeline = timeline }
